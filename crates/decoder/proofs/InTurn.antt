-- Planes read and stored in a row: the next plane is good where all are, and what is read of it stands in front of what the rest reads.
use mathlib.Core.Path.{◌≡◌, refl, sym, ap, ◌∙◌}
use mathlib.Core.Bool.{true}
use mathlib.Core.List.{List, [], ◌∷◌}
use Prim.Native.Nat.{ℕ, zero, suc, ◌-◌, ◌^◌, ◌<◌}
use native.Mathlib.Omega.{arith}
use lib.ListN.{take}
use Rattle.calls.specs.Arguments.{Settings, Plane, PerStream, Buffers}
use Rattle.calls.specs.Legal.{LegalSettings, LegalPlane, Every}
use Rattle.calls.specs.ReadPlane.{BlockRead, PlaneRead, bad_plane, plane_read}
use Rattle.slice.specs.Calls.{PlanesRead, bad_planes, planes_read, plane_then, by_plane, read_planes}
use Rattle.blockread.specs.On.{good_plane}
use Rattle.judge.specs.Good.{good_planes}
use Rattle.decplane.specs.Storing.{plane_in, blocks_got, PlaneGood, PlaneStored}

good_first : (r : PlaneRead) (next : PerStream → PlanesRead) → good_planes (by_plane r next) ≡ true → good_plane r ≡ true
good_first bad_plane next e = e
good_first (plane_read b qd qa) next e = refl

good_then : (b : List BlockRead) (r : PlanesRead) → good_planes (plane_then b r) ≡ true → good_planes r ≡ true
good_then b bad_planes e = e
good_then b (planes_read bs at) e = refl

module _ (σ : Settings) (b : Buffers) where
  -- what the streams hold of planes from a position on
  abbrev pub all : List Plane → PerStream → PlanesRead
  all ps at = read_planes σ.shift ps b at

  -- the first n of these planes are good from here on
  pub record Going (n : ℕ) (ps : List Plane) (at : PerStream) : Type 0 where
    pub settings : LegalSettings σ
    pub planes : Every LegalPlane (take n ps)
    pub good : good_planes (all (take n ps) at) ≡ true

  pub plane_good : (n : ℕ) (p : Plane) (ps : List Plane) (at : PerStream) → 0 < n → at.dc < 2 ^ 30 → at.ac < 2 ^ 30 → Going n (p ∷ ps) at → PlaneGood σ p b at
  unfolding read_planes
  plane_good zero p ps at z x y g = absurd (omega arith)
  plane_good (suc n) p ps at z x y g =
      record {
        settings = g.settings;
        plane = g.planes.0;
        dc_start = x;
        ac_start = y;
        good = good_first (plane_in σ p b at) (λ q. all (take n ps) q) g.good;
      }

  module _ (p : Plane) (ps : List Plane) (at : PerStream) {end : PerStream} {rows : List ℕ} (s : PlaneStored σ p b at end rows) where
    next : (n : ℕ) → Going (suc n) (p ∷ ps) at → Going n ps end
    unfolding read_planes
    next n g =
        record {
          settings = g.settings;
          planes = g.planes.1;
          good = good_then (blocks_got (plane_in σ p b at)) (all (take n ps) end)
              (sym (ap (λ (x : PlaneRead). good_planes (by_plane x (λ q. all (take n ps) q))) s.ends) ∙ g.good);
        }

    pub going_on : (n : ℕ) → 0 < n → Going n (p ∷ ps) at → Going (n - 1) ps end
    going_on n z g = let e : suc (n - 1) ≡ n = omega arith in next (n - 1) (rw e g)

    behind : (n : ℕ) {bs : List (List BlockRead)} {last : PerStream} → all (take n ps) end ≡ planes_read bs last
        → all (take (suc n) (p ∷ ps)) at ≡ planes_read (blocks_got (plane_in σ p b at) ∷ bs) last
    unfolding read_planes
    behind n e = ap (λ (x : PlaneRead). by_plane x (λ q. all (take n ps) q)) s.ends ∙ ap (plane_then (blocks_got (plane_in σ p b at))) e

    pub read_on_lem : (n : ℕ) {bs : List (List BlockRead)} {last : PerStream} → 0 < n → all (take (n - 1) ps) end ≡ planes_read bs last
        → all (take n (p ∷ ps)) at ≡ planes_read (blocks_got (plane_in σ p b at) ∷ bs) last
    read_on_lem n z e = let f : n ≡ suc (n - 1) = omega arith in rw f (behind (n - 1) e)

  pub read_none_lem : (n : ℕ) (ps : List Plane) (at : PerStream) → n ≡ 0 → all (take n ps) at ≡ planes_read [] at
  unfolding read_planes
  read_none_lem zero ps at e = refl
  read_none_lem (suc n) ps at e = absurd (omega arith)
