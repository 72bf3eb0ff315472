-- Tables of four places.
use Rattle.words.specs.Parts.{table}
use Rattle.words.proofs.Tables.{within_read, within_written}
use Rattle.link.specs.Messages.{quiet, unasked}
use Rattle.link.specs.Words.{grant_in, probe_in, probe_of}
use Rattle.link.proofs.messages_of_cores.Goals as goal

pub returns : goal.returns
returns c = record {
  grants = ((λ w k h. within_read 4 quiet (table 12 grant_in w) k h), (λ v w k x h e. within_written 4 quiet (table 12 grant_in w) (table 12 grant_in v) k x h e));
  probes = (
    (λ w k h. within_read 4 unasked (table 3 (λ j b. probe_of j (probe_in b)) w) k h),
    (λ v w k x h e. within_written 4 unasked (table 3 (λ j b. probe_of j (probe_in b)) w) (table 3 (λ j b. probe_of j (probe_in b)) v) k x h e),
  );
}
