-- Tables of 256 and of four places.
use Rattle.words.specs.Parts.{table}
use Rattle.words.proofs.Tables.{within_read, within_written}
use Rattle.directory.specs.Directory.{idle, nobody}
use Rattle.directory.specs.Words.{entry_in, entry_of, request_in, request_of}
use Rattle.directory.proofs.tables_of_the_directory.Goals as goal

pub returns : goal.returns
returns c = record {
  entries = (
    (λ w p h. within_read 256 nobody (table 2 (λ _ b. entry_of (entry_in b)) w) p h),
    (λ v w p x h e. within_written 256 nobody (table 2 (λ _ b. entry_of (entry_in b)) w) (table 2 (λ _ b. entry_of (entry_in b)) v) p x h e),
  );
  requests = (
    (λ w k h. within_read 4 idle (table 5 (λ j b. request_of j (request_in b)) w) k h),
    (λ v w k x h e. within_written 4 idle (table 5 (λ j b. request_of j (request_in b)) w) (table 5 (λ j b. request_of j (request_in b)) v) k x h e),
  );
}
