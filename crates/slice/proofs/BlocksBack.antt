-- What is read of a plane is near what was quantised, block by block; and of planes one after the other.
use mathlib.Core.Path.{◌≡◌, refl, sym, ap, ◌∙◌, subst}
use mathlib.Core.List.{List, [], ◌∷◌, ◌++◌, map, append_assoc}
use Prim.Native.Nat.{ℕ, suc, ◌+◌, ◌^◌, ◌/◌, ◌≤◌, ◌<◌}
use native.Mathlib.Nat.{add-zero, add_assoc}
use native.Mathlib.Omega.{arith}
use lib.IntN.{ℤ, nat_abs, ◌-ℤ◌}
use lib.ListN.{length, drop, length-append}
use Rattle.calls.specs.Arguments.{Settings, Plane, PerStream, Buffers, lengths_of}
use Rattle.calls.specs.Streams.{dc_of, dc_stream, ac_stream}
use Rattle.calls.specs.ReadPlane.{BlockRead, PlaneRead, read_plane}
use Rattle.calls.specs.Grid.{blocks_of}
use Rattle.slice.specs.Plane.{coefficients}
use Rattle.calls.specs.Questions.{together}
use Rattle.slice.specs.Calls.{own_streams, planes_read, plane_then, by_plane, read_planes}
use Rattle.slice.specs.CallLists.{shape}
use Rattle.slice.specs.Demand3.{BlockBack, PlaneBack, PlanesBack}
use Rattle.calls.proofs.DcNear.{dc_near, no_difference}
use Rattle.calls.proofs.PlaneBack.{coeffs_of, dc_read, block_read, PlaneIs, plane_back}
use Rattle.calls.proofs.Fits.{Quantised, AllQuantised}
use Rattle.slice.proofs.Law.{plane_quantised, blocks_fit, count_is}

block_back : (shift : ℕ) (b g : List ℤ) → shift ≤ 15 → Quantised b → g ≡ block_read shift b → BlockBack shift b g
block_back shift [] g hs q e = absurd (omega (arith, q.sixty_four))
block_back shift (c ∷ b) g hs q e =
    record {
      ac_equal = ap (drop 1) e;
      dc_near = subst (λ (x : List ℤ). nat_abs (dc_of x -ℤ c) ≤ 2 ^ shift / 2) (sym e) near;
      dc_exact = λ z. ap dc_of e ∙ no_difference (dc_read shift c) c (subst (λ (s : ℕ). nat_abs (dc_read shift c -ℤ c) ≤ 2 ^ s / 2) z near);
    }
  where
    near : nat_abs (dc_read shift c -ℤ c) ≤ 2 ^ shift / 2
    near = (dc_near shift c hs q.at_most.0).near

never : {A : Type 0} {x : A} {xs : List A} → x ∷ xs ≡ [] → ⊥
never e = let z : ◌≡◌ {A = ℕ} 0 1 = cc in omega arith

blocks_back : (shift : ℕ) (bs : List (List ℤ)) (got : List BlockRead) → shift ≤ 15 → AllQuantised bs → map coeffs_of got ≡ map (block_read shift) bs → PlaneBack shift bs got
blocks_back shift [] [] hs q e = tt
blocks_back shift [] (g ∷ gs) hs q e = never e
blocks_back shift (b ∷ bs) [] hs q e = never (sym e)
blocks_back shift (b ∷ bs) (g ∷ gs) hs q e = (block_back shift b g.coeffs hs q.0 first, blocks_back shift bs gs hs q.1 rest)
  where
    first : coeffs_of g ≡ block_read shift b
    first = cc

    rest : map coeffs_of gs ≡ map (block_read shift) bs
    rest = cc

pub planes_append : (shift : ℕ) (qs rs : List (List (List ℤ))) (xs ys : List (List BlockRead)) → PlanesBack shift qs xs → PlanesBack shift rs ys → PlanesBack shift (qs ++ rs) (xs ++ ys)
planes_append shift [] rs [] ys a b = b
planes_append shift [] rs (x ∷ xs) ys a b = absurd a
planes_append shift (q ∷ qs) rs [] ys a b = absurd a
planes_append shift (q ∷ qs) rs (x ∷ xs) ys a b = (a.0, planes_append shift qs rs xs ys a.1 b)

pub planes_length : (shift : ℕ) (qs : List (List (List ℤ))) (xs : List (List BlockRead)) → PlanesBack shift qs xs → length xs ≡ length qs
planes_length shift [] [] a = refl
planes_length shift [] (x ∷ xs) a = absurd a
planes_length shift (q ∷ qs) [] a = absurd a
planes_length shift (q ∷ qs) (x ∷ xs) a = ap suc (planes_length shift qs xs a.1)

-- what is read depends on strides alone
pub same_shapes : (shift : ℕ) (ps ns : List Plane) (b : Buffers) (at : PerStream) → map shape ps ≡ map shape ns → read_planes shift ps b at ≡ read_planes shift ns b at
unfolding read_planes
same_shapes shift [] [] b at e = refl
same_shapes shift [] (n ∷ ns) b at e = absurd (never (sym e))
same_shapes shift (p ∷ ps) [] b at e = absurd (never e)
same_shapes shift (p ∷ ps) (n ∷ ns) b at e =
    λ i. by_plane (read_plane shift (blocks_of (first i).stride) b.dc_bytes b.ac_bytes at.dc at.ac) (λ q. same_shapes shift ps ns b q rest i)
  where
    first : shape p ≡ shape n
    first = cc

    rest : map shape ps ≡ map shape ns
    rest = cc

pub regroup : (l pre own row post : List ℕ) → l ≡ pre ++ ((own ++ row) ++ post) → l ≡ (pre ++ own) ++ (row ++ post)
regroup l pre own row post e = e ∙ ap (λ (x : List ℕ). pre ++ x) (append_assoc own row post) ∙ sym (append_assoc pre own (row ++ post))

-- a plane that was coded
pub record Fine (σ : Settings) (p : Plane) : Type 0 where
  pub preset_le : σ.preset ≤ 24
  pub shift_le : σ.shift ≤ 15
  pub few : blocks_of p.stride < 2 ^ 32

abbrev pub AllFine : Settings → List Plane → Type 0
AllFine σ [] = Unit {0}
AllFine σ (p ∷ ps) = Fine σ p × AllFine σ ps

pub fine_append : (σ : Settings) (xs ys : List Plane) → AllFine σ (xs ++ ys) → AllFine σ xs × AllFine σ ys
fine_append σ [] ys f = (tt, f)
fine_append σ (x ∷ xs) ys f = let r = fine_append σ xs ys f.1 in ((f.0, r.0), r.1)

pub fine_join : (σ : Settings) (xs ys : List Plane) → AllFine σ xs → AllFine σ ys → AllFine σ (xs ++ ys)
fine_join σ [] ys f g = g
fine_join σ (x ∷ xs) ys f g = (f.0, fine_join σ xs ys f.1 g)

module _ (σ : Settings) where
  -- planes read one after the other
  pub record ManyIs (ps : List Plane) (b : Buffers) (at end : PerStream) : Type 0 where
    pub got : List (List BlockRead)
    pub is : read_planes σ.shift ps b at ≡ planes_read got end
    pub back : PlanesBack σ.shift (map (coefficients σ) ps) got

  pub none_read : (b : Buffers) (at : PerStream) → ManyIs [] b at (together at (lengths_of (own_streams σ [])))
  unfolding read_planes own_streams
  none_read b at = record { got = []; is = sym (λ i. planes_read [] (record { dc = add-zero at.dc i; ac = add-zero at.ac i })); back = tt }

  plane_at_lem : (p : Plane) (b : Buffers) (pd qd pa qa : List ℕ) (at : PerStream) → Fine σ p
      → b.dc_bytes ≡ pd ++ (dc_stream σ.shift (coefficients σ p) ++ qd) → b.ac_bytes ≡ pa ++ (ac_stream (coefficients σ p) ++ qa)
      → at.dc ≡ length pd → at.ac ≡ length pa
      → PlaneIs σ.shift (coefficients σ p) b.dc_bytes b.ac_bytes at.dc at.ac
      (at.dc + length (dc_stream σ.shift (coefficients σ p))) (at.ac + length (ac_stream (coefficients σ p)))
  plane_at_lem p b pd qd pa qa at f e1 e2 e3 e4 =
      rw (e1, e2, e3, e4)
      (plane_back σ.shift (coefficients σ p) pd qd pa qa (blocks_fit σ p f.preset_le) (omega (arith, count_is σ p f.preset_le, f.few)))

  pub many_back : (ps : List Plane) (b : Buffers) (pd qd pa qa : List ℕ) (at : PerStream) → AllFine σ ps
      → b.dc_bytes ≡ pd ++ ((own_streams σ ps).dc_bytes ++ qd) → b.ac_bytes ≡ pa ++ ((own_streams σ ps).ac_bytes ++ qa)
      → at.dc ≡ length pd → at.ac ≡ length pa
      → ManyIs ps b at (together at (lengths_of (own_streams σ ps)))
  unfolding read_planes own_streams
  many_back [] b pd qd pa qa at f e1 e2 e3 e4 = none_read b at
  many_back (p ∷ ps) b pd qd pa qa at f e1 e2 e3 e4 =
      go (plane_at_lem p b pd (R ++ qd) pa (S ++ qa) at f.0
      (e1 ∙ ap (λ (x : List ℕ). pd ++ x) (append_assoc D R qd)) (e2 ∙ ap (λ (x : List ℕ). pa ++ x) (append_assoc A S qa)) e3 e4)
      (many_back ps b (pd ++ D) qd (pa ++ A) qa (record { dc = at.dc + length D; ac = at.ac + length A }) f.1
      (regroup b.dc_bytes pd D R qd e1) (regroup b.ac_bytes pa A S qa e2)
      (ap (λ (n : ℕ). n + length D) e3 ∙ sym (length-append pd D)) (ap (λ (n : ℕ). n + length A) e4 ∙ sym (length-append pa A)))
    where
      D : List ℕ
      D = dc_stream σ.shift (coefficients σ p)

      A : List ℕ
      A = ac_stream (coefficients σ p)

      R : List ℕ
      R = (own_streams σ ps).dc_bytes

      S : List ℕ
      S = (own_streams σ ps).ac_bytes

      end : (i : ℕ) (xs ys : List ℕ) → i + length xs + length ys ≡ i + length (xs ++ ys)
      end i xs ys = add_assoc i (length xs) (length ys) ∙ ap (λ (n : ℕ). i + n) (sym (length-append xs ys))

      go : PlaneIs σ.shift (coefficients σ p) b.dc_bytes b.ac_bytes at.dc at.ac (at.dc + length D) (at.ac + length A)
          → ManyIs ps b (record { dc = at.dc + length D; ac = at.ac + length A }) (record { dc = at.dc + length D + length R; ac = at.ac + length A + length S })
          → ManyIs (p ∷ ps) b at (record { dc = at.dc + length (D ++ R); ac = at.ac + length (A ++ S) })
      go x y =
          record {
            got = x.got ∷ y.got;
            is = ap (λ (n : ℕ). by_plane (read_plane σ.shift n b.dc_bytes b.ac_bytes at.dc at.ac) (λ q. read_planes σ.shift ps b q)) (sym (count_is σ p f.0.preset_le))
                ∙ ap (λ (r : PlaneRead). by_plane r (λ q. read_planes σ.shift ps b q)) x.is
                ∙ ap (plane_then x.got) y.is
                ∙ (λ i. planes_read (x.got ∷ y.got) (record { dc = end at.dc D R i; ac = end at.ac A S i }));
            back = (blocks_back σ.shift (coefficients σ p) x.got f.0.shift_le (plane_quantised σ p f.0.preset_le) x.same, y.back);
          }
