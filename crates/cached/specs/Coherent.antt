-- What holds of the lines of the chip: one owner or several readers, the directory's books, and the words of each copy.
-- Assumes nothing: these are definitions.
use Rattle.std.specs.Prelude.{◌≡◌, ℕ, ◌/◌, ◌%◌, ◌<◌, true, false, ◌≢◌, List}
use Rattle.cache.specs.Slots.{Slot, empty, holds, has, owns, dirties}
use Rattle.link.specs.Messages.{Grant, quiet, grant, over}
use Rattle.directory.specs.Directory.{Entry, nobody, tagged, tag, held, Request, idle, wants, fetches, busy}
use Rattle.cached.specs.Lines.{Lines}

-- the words are those of the machines' memory, and only what is owned is dirty
abbrev pub Good : (ℕ → List ℕ) → Slot → Type 0
Good m empty = Unit {0}
Good m (holds a o d w) = (w ≡ m a) × (o ≡ false → d ≡ false)

-- the copies by place; the memory outside by line, and the machines'
pub record Copies : Type 0 where
  pub at : ℕ → Slot
  pub memory : ℕ → List ℕ
  pub truth : ℕ → List ℕ

pub record Coherent (c : Copies) : Type 0 where
  -- a line that is owned at a place is at no other
  pub single : (p q a : ℕ) → owns (c.at p) a ≡ true → has (c.at q) a ≡ true → p ≡ q
  -- a core has a line at one place at most
  pub once : (p q a : ℕ) → p / 64 ≡ q / 64 → has (c.at p) a ≡ true → has (c.at q) a ≡ true → p ≡ q
  -- each copy has the words of the machines' memory
  pub good : (p : ℕ) → Good c.truth (c.at p)
  -- where no copy is dirty the memory outside has them too
  pub stored : (a : ℕ) → ((p : ℕ) → dirties (c.at p) a ≡ false) → c.memory a ≡ c.truth a

-- what place p has, or is about to have
abbrev pub view : Lines → ℕ → Slot
view l p = over (l.coming (p / 64)) p (l.slot p)

abbrev pub copies : Lines → (ℕ → List ℕ) → (ℕ → List ℕ) → Copies
copies l m t = record { at = view l; memory = m; truth = t }

-- place p is one for line a of a memory of n lines
abbrev pub Home : ℕ → ℕ → ℕ → Type 0
Home n p a = (a < n) × ((p / 2) % 32 ≡ a % 32) × (p < 256)

-- core k asks for line a: its place is one of the core's for that line, nobody has that place, the core does not have the line, and nothing is on
-- its way to it
pub record Asks (n : ℕ) (e : ℕ → Entry) (g : ℕ → Grant) (k a p : ℕ) : Type 0 where
  pub mine : p / 64 ≡ k
  pub home : Home n p a
  pub vacant : e p ≡ nobody
  pub lacks : (q : ℕ) → q / 64 ≡ k → held (e q) a ≡ false
  pub still : g k ≡ quiet

abbrev pub Fair : ℕ → (ℕ → Entry) → (ℕ → Grant) → ℕ → Request → Type 0
Fair n e g k idle = Unit {0}
Fair n e g k (wants a o p s) = Asks n e g k a p

-- what is on its way to core k goes to a place of its own, which has nothing
abbrev pub Bound : (ℕ → Slot) → ℕ → Grant → Type 0
Bound f k quiet = Unit {0}
Bound f k (grant p x) = (p / 64 ≡ k) × (f p ≡ empty)

-- nothing is on its way to place p
abbrev pub Clear : Grant → ℕ → Type 0
Clear quiet p = Unit {0}
Clear (grant q x) p = p ≢ q

-- a line is at a place that is one for it
abbrev pub Shape : ℕ → ℕ → Entry → Type 0
Shape n p nobody = Unit {0}
Shape n p (tagged a o) = Home n p a

-- what holds of caches, messages and directory, whatever the words
pub record Tidy (n : ℕ) (l : Lines) : Type 0 where
  -- the directory knows what each place has or is about to have
  pub mirror : (p : ℕ) → l.entry p ≡ tag (view l p)
  -- a grant has a place
  pub bound : (k : ℕ) → Bound l.slot k (l.coming k)
  -- and so has a request
  pub fair : (k : ℕ) → Fair n l.entry l.coming k (l.request k)
  -- a line on its way from memory is in no cache
  pub unheld : (k a p : ℕ) → fetches (l.request k) a ≡ true → held (l.entry p) a ≡ false
  -- one request at most for a line is under way
  pub alone : (i j a : ℕ) → busy (l.request i) a ≡ true → busy (l.request j) a ≡ true → i ≡ j
  pub shape : (p : ℕ) → Shape n p (l.entry p)

-- all that holds of the lines of a chip with a memory of n lines, where memory outside is m and the machines' is t
pub record Safe (n : ℕ) (l : Lines) (m t : ℕ → List ℕ) : Type 0 where
  pub tidy : Tidy n l
  pub coherent : Coherent (copies l m t)
