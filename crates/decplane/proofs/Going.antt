-- The reading half of the loops over a plane's blocks, after the first m of them.
use mathlib.Core.Path.{◌≡◌, sym, ap, ◌∙◌}
use mathlib.Core.Bool.{true}
use mathlib.Core.List.{List, [], map}
use Prim.Native.Nat.{ℕ, suc, ◌+◌, ◌-◌, ◌*◌, ◌≤◌, ◌<◌}
use native.Mathlib.Numerals.{add-one}
use native.Mathlib.Omega.{arith}
use lib.IntN.{pos}
use lib.ListN.{get_or}
use Rattle.bits.specs.Bits.{bytes_for}
use Rattle.calls.specs.ReadPlane.{BlockRead, plane_read, read_plane}
use Rattle.blockread.specs.On.{read_on, good_plane, block_first, block_of, Ready, NextBlock}
use Rattle.blockread.specs.declared.Stand.{Stand}
use Rattle.blockread.specs.declared.BlockGot.{BlockGot}
use Rattle.blockread.proofs.Good.{good_first}
use Rattle.decplane.specs.Storing.{blocks_got}
use Rattle.decplane.proofs.Reading.{behind, read_start, next_rest, next_at, good_behind, read_over}

-- m blocks of n were read, from the bytes d and a on, and s is where reading stands
pub record Going (shift n : ℕ) (dc ac : List ℕ) (d a m : ℕ) (s : Stand) : Type 0 where
  pub rest : read_on shift (n - m) dc ac s ≡ behind m (read_plane shift n dc ac d a)
  pub ready : Ready dc s
  pub dc_near : s.dc.pos ≤ 8 * d + 112 * m
  pub ac_near : s.ac ≤ 8 * a + 7168 * m

module _ (shift n : ℕ) (dc ac : List ℕ) (d a : ℕ) where
  pub going_start : (s : Stand) → Ready dc s → s.dc.pos ≡ 8 * d → s.ac ≡ 8 * a → s.pending ≡ 0 → s.last ≡ pos 0 → Going shift n dc ac d a 0 s
  going_start s r ed ea ep el =
      let z : n - 0 ≡ n = omega arith in
      record { rest = rw z (read_start shift n dc ac d a s ed ea ep el); ready = r; dc_near = omega arith; ac_near = omega arith }

  one_left : (m : ℕ) → m < n → n - m ≡ suc (n - (m + 1))
  one_left m h = omega arith

  pub good_next : (m : ℕ) (s : Stand) → good_plane (read_plane shift n dc ac d a) ≡ true → m < n → Going shift n dc ac d a m s → good_plane (read_on shift 1 dc ac s) ≡ true
  good_next m s g h i =
      good_first shift (n - (m + 1)) dc ac s
      (ap (λ (k : ℕ). good_plane (read_on shift k dc ac s)) (sym (one_left m h)) ∙ ap good_plane i.rest ∙ good_behind m (read_plane shift n dc ac d a) ∙ g)

  first_of : (m : ℕ) (s : Stand) (b : BlockGot) → m < n → Going shift n dc ac d a m s → NextBlock shift dc ac s b
      → block_first (block_of b) (read_on shift (n - (m + 1)) dc ac b.next) ≡ behind m (read_plane shift n dc ac d a)
  first_of m s b h i x =
      sym (x.first (n - (m + 1))) ∙ ap (λ (k : ℕ). read_on shift k dc ac s) (sym (one_left m h)) ∙ i.rest

  pub going_next : (m : ℕ) (s : Stand) (b : BlockGot) → good_plane (read_plane shift n dc ac d a) ≡ true → m < n → Going shift n dc ac d a m s → NextBlock shift dc ac s b
      → Going shift n dc ac d a (m + 1) b.next
  going_next m s b g h i x =
      record {
        rest =
            next_rest m (read_plane shift n dc ac d a) (read_on shift (n - (m + 1)) dc ac b.next) (block_of b) g (first_of m s b h i x)
            ∙ ap (λ (k : ℕ). behind k (read_plane shift n dc ac d a)) (sym (add-one m));
        ready = x.ready;
        dc_near = omega (arith, x.dc_near, i.dc_near);
        ac_near = omega (arith, x.ac_near, i.ac_near);
      }

  -- the block got is block m of those that the plane holds
  pub block_here : (f : BlockRead → List ℕ) (m : ℕ) (s : Stand) (b : BlockGot) → good_plane (read_plane shift n dc ac d a) ≡ true → m < n → Going shift n dc ac d a m s → NextBlock shift dc ac s b
      → f (block_of b) ≡ get_or (map f (blocks_got (read_plane shift n dc ac d a))) m []
  block_here f m s b g h i x =
      next_at f m (read_plane shift n dc ac d a) (read_on shift (n - (m + 1)) dc ac b.next) (block_of b) g (first_of m s b h i x)

  pub going_over : (m : ℕ) (s : Stand) → n ≤ m → Going shift n dc ac d a m s
      → read_plane shift n dc ac d a ≡ plane_read (blocks_got (read_plane shift n dc ac d a)) (bytes_for s.dc.pos) (bytes_for s.ac)
  going_over m s h i = read_over shift (n - m) m dc ac s (read_plane shift n dc ac d a) (omega arith) i.rest
