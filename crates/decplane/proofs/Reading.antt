-- A plane whose streams hold no bad code, block by block: what is still to be read from a stand is the plane after the blocks that were read.
use mathlib.Core.Path.{◌≡◌, refl, sym, ap, ◌∙◌}
use mathlib.Core.Bool.{true, false}
use mathlib.Core.List.{List, [], ◌∷◌, map}
use Prim.Native.Nat.{ℕ, zero, suc, ◌*◌}
use native.Mathlib.Omega.{arith}
use lib.IntN.{pos}
use lib.ListN.{get_or, drop}
use Rattle.bits.specs.Bits.{bytes_for}
use Rattle.calls.specs.ReadPlane.{BlockRead, PlaneRead, bad_plane, plane_read, read_plane}
use Rattle.blockread.specs.On.{read_on, good_plane, block_first}
use Rattle.blockread.specs.declared.Stand.{Stand}
use Rattle.blockread.proofs.Split.{read_plane_lem, read_none_lem}
use Rattle.decplane.specs.Storing.{blocks_got}

-- the plane after its first m blocks
abbrev pub behind : ℕ → PlaneRead → PlaneRead
behind m bad_plane = bad_plane
behind m (plane_read bs qd qa) = plane_read (drop m bs) qd qa

no_bad : {A : Type 0} → false ≡ true → A
no_bad e = absurd (let z : ◌≡◌ {A = ℕ} 0 1 = cc in omega arith)

-- ---- lists
drop_next : {A : Type 0} (m : ℕ) (l : List A) (b : A) (r : List A) → b ∷ r ≡ drop m l → r ≡ drop (suc m) l
drop_next zero [] b r e = absurd (let z : ◌≡◌ {A = ℕ} 0 1 = cc in omega arith)
drop_next zero (x ∷ l) b r e = cc
drop_next (suc m) [] b r e = absurd (let z : ◌≡◌ {A = ℕ} 0 1 = cc in omega arith)
drop_next (suc m) (x ∷ l) b r e = drop_next m l b r e

map_at : {A : Type 0} (f : A → List ℕ) (m : ℕ) (l : List A) (b : A) (r : List A) → b ∷ r ≡ drop m l → f b ≡ get_or (map f l) m []
map_at f zero [] b r e = absurd (let z : ◌≡◌ {A = ℕ} 0 1 = cc in omega arith)
map_at f zero (x ∷ l) b r e = let h : b ≡ x = cc in ap f h
map_at f (suc m) [] b r e = absurd (let z : ◌≡◌ {A = ℕ} 0 1 = cc in omega arith)
map_at f (suc m) (x ∷ l) b r e = map_at f m l b r e

-- ---- start
behind_none : (x : PlaneRead) → x ≡ behind 0 x
behind_none bad_plane = refl
behind_none (plane_read bs qd qa) = refl

pub read_start : (shift n : ℕ) (dc ac : List ℕ) (d a : ℕ) (s : Stand) → s.dc.pos ≡ 8 * d → s.ac ≡ 8 * a → s.pending ≡ 0 → s.last ≡ pos 0
    → read_on shift n dc ac s ≡ behind 0 (read_plane shift n dc ac d a)
read_start shift n dc ac d a s ed ea ep el = sym (read_plane_lem shift n dc ac d a s ed ea ep el) ∙ behind_none (read_plane shift n dc ac d a)

-- ---- one block
pub next_rest : (m : ℕ) (x y : PlaneRead) (b : BlockRead) → good_plane x ≡ true → block_first b y ≡ behind m x → y ≡ behind (suc m) x
next_rest m bad_plane y b g e = no_bad g
next_rest m (plane_read bs qd qa) bad_plane b g e = absurd (let z : ◌≡◌ {A = ℕ} 0 1 = cc in omega arith)
next_rest m (plane_read bs qd qa) (plane_read cs pd pa) b g e =
    let h : b ∷ cs ≡ drop m bs = cc in
    let f : cs ≡ drop (suc m) bs = drop_next m bs b cs h in
    cc

-- its block, among all that are read
pub next_at : (f : BlockRead → List ℕ) (m : ℕ) (x y : PlaneRead) (b : BlockRead) → good_plane x ≡ true → block_first b y ≡ behind m x → f b ≡ get_or (map f (blocks_got x)) m []
next_at f m bad_plane y b g e = no_bad g
next_at f m (plane_read bs qd qa) bad_plane b g e = absurd (let z : ◌≡◌ {A = ℕ} 0 1 = cc in omega arith)
next_at f m (plane_read bs qd qa) (plane_read cs pd pa) b g e = let h : b ∷ cs ≡ drop m bs = cc in map_at f m bs b cs h

pub good_behind : (m : ℕ) (x : PlaneRead) → good_plane (behind m x) ≡ good_plane x
good_behind m bad_plane = refl
good_behind m (plane_read bs qd qa) = refl

-- ---- end
over_at : (x : PlaneRead) (m qd qa : ℕ) → plane_read [] qd qa ≡ behind m x → x ≡ plane_read (blocks_got x) qd qa
over_at bad_plane m qd qa e = absurd (let z : ◌≡◌ {A = ℕ} 0 1 = cc in omega arith)
over_at (plane_read bs pd pa) m qd qa e =
    let f : pd ≡ qd = cc in
    let g : pa ≡ qa = cc in
    cc

pub read_over : (shift n m : ℕ) (dc ac : List ℕ) (s : Stand) (x : PlaneRead) → n ≡ 0 → read_on shift n dc ac s ≡ behind m x → x ≡ plane_read (blocks_got x) (bytes_for s.dc.pos) (bytes_for s.ac)
read_over shift n m dc ac s x z e =
    over_at x m (bytes_for s.dc.pos) (bytes_for s.ac) (sym (read_none_lem shift dc ac s) ∙ ap (λ (k : ℕ). read_on shift k dc ac s) (sym z) ∙ e)
