-- What a walk that stores views asks, and what it leaves in the table.
use Rattle.std.specs.Prelude.{List, ℕ, ◌+◌, ◌*◌, ◌≤◌, length, take}
use Rattle.bits.specs.Lay.{lay}
use Rattle.ask.specs.Ask.{Answer, refused, accepted}
use Rattle.ask.specs.Limits.{ac_read_max, slices_max}

-- what a walk over the n streams at p asks: it stores after `from` views, and every offset fits 32 bits
pub record Walks (f : List ℕ) (n limit p from : ℕ) (table held : List ℕ) : Type 0 where
  pub inside : p ≤ length f
  pub short : limit ≤ ac_read_max
  pub small : p ≤ 5 + from * (ac_read_max + 4)
  pub slices : from + n ≤ 2 * slices_max
  pub room : 2 * (from + n) ≤ length table
  pub holds : 2 * (from + n) ≤ length held

-- a walk stores its views after `from` others; where it is refused, what is held goes into the places of all these views
abbrev pub walk_left : Answer ℕ → List ℕ → List ℕ → ℕ → ℕ → List ℕ → List ℕ
walk_left (refused m) table held from n views = lay table 0 (take (2 * (from + n)) held)
walk_left (accepted q) table held from n views = lay table (2 * from) views
