-- The laws of a core's own cache, and of places.
use Rattle.cache.proofs.Own.{cached_own, choose_own, find_own, own_words, own_words_written, place_read, place_written, put_own, seek_own, stored_own}
use Rattle.cache.proofs.caches.caches_of_cores.Goals as goal

pub returns : goal.returns
returns c =
    record {
      own = (
        own_words,
        (
          λ k f g o. (find_own k f g o, cached_own k f g o, seek_own k f g o),
          (λ k f g a c b o. choose_own k f g o a c b, (λ k i f g x h o. put_own k f g o i x h, λ k y v f g o. stored_own k f g o y v)),
        ),
      );
      own_words = own_words_written;
      places = (place_read, place_written);
    }
