-- A plane's own streams are read back, with anything before and after them.
use mathlib.Core.Path.{◌≡◌, refl, sym, ap, ap₂, ◌∙◌, subst}
use mathlib.Core.Bool.{Bool}
use mathlib.Core.List.{List, [], ◌∷◌, ◌++◌, map}
use Prim.Native.Nat.{ℕ, zero, suc, ◌+◌, ◌*◌, ◌^◌, ◌-◌, ◌<◌}
use native.Mathlib.Nat.{zero-add, suc-add}
use native.Mathlib.Omega.{arith}
use lib.IntN.{ℤ, pos}
use lib.Signed.{mag}
use lib.ListN.{length, replicate, length-append, length-map, take, drop}
use lib.Seq.{take_at, drop_at}
use lib.Dec.{ltb}
use Rattle.scalar.specs.Scalar.{add_of, sra_of, sll_of}
use Rattle.scalar.proofs.Laws.{wrap16_fits, shr_fits}
use Rattle.bits.specs.Bits.{Stream, bit_at, bytes_for, pad_to_byte}
use Rattle.bits.specs.Signed.{signed_of}
use Rattle.bits.specs.Read.{Symbol, bad_symbol, run, value, read_symbol}
use Rattle.bits.proofs.PackBack.{pad_to_byte_at, length_pad_to_byte}
use Rattle.calls.specs.Streams.{coded_dc, steps_from, step_codes, dc_of, with_dc, dc_stream, symbol_codes, joined, ac_stream}
use Rattle.calls.specs.ReadPlane.{Places, bad_places, places, place_then, by_symbol, read_places, BlockRead, blocks, read_blocks, dc_steps, read_steps, predicted, ac_dcs, with_dcs, plane_read, both_streams, read_plane}
use Rattle.calls.proofs.AcBack.{Fit16, ac_back}
use Rattle.calls.proofs.Residues.{shift_zero}
use Rattle.calls.proofs.DcBack.{as_read, steps_back, predicted_back, length_steps, steps_small}

-- ---- what is read in two parts
never : {cs : List ℤ} {q r : ℕ} → bad_places ≡ places cs q r → ⊥
never e = cc

record Pushed (c : ℤ) (x : Places) (cs : List ℤ) (q r : ℕ) : Type 0 where
  rest : List ℤ
  is : x ≡ places rest q r
  front : cs ≡ c ∷ rest

push_inv : (c : ℤ) (x : Places) (cs : List ℤ) (q r : ℕ) → place_then c x ≡ places cs q r → Pushed c x cs q r
push_inv c bad_places cs q r e = absurd (never e)
push_inv c (places ds q1 r1) cs q r e = record { rest = ds; is = cc; front = cc }

record Went (y : Symbol) (F : ℕ → ℕ → Places) (cs : List ℤ) (q r : ℕ) : Type 0 where
  cell : ℤ
  to : ℕ
  coming : ℕ
  same : (G : ℕ → ℕ → Places) → by_symbol y G ≡ place_then cell (G to coming)
  pushed : Pushed cell (F to coming) cs q r

symbol_inv : (y : Symbol) (F : ℕ → ℕ → Places) (cs : List ℤ) (q r : ℕ) → by_symbol y F ≡ places cs q r → Went y F cs q r
symbol_inv bad_symbol F cs q r e = absurd (never e)
symbol_inv (run n to) F cs q r e = record { cell = pos 0; to = to; coming = n - 1; same = λ G. refl; pushed = push_inv (pos 0) (F to (n - 1)) cs q r e }
symbol_inv (value c to) F cs q r e = record { cell = signed_of c; to = to; coming = 0; same = λ G. refl; pushed = push_inv (signed_of c) (F to 0) cs q r e }

record Parts (k m : ℕ) (s : Stream) (p r : ℕ) (cs : List ℤ) (q r' : ℕ) : Type 0 where
  one : List ℤ
  two : List ℤ
  mid : ℕ
  left : ℕ
  first : read_places k s p r ≡ places one mid left
  second : read_places m s mid left ≡ places two q r'
  whole : cs ≡ one ++ two
  size : length one ≡ k

split : (k m : ℕ) (s : Stream) (p r : ℕ) (cs : List ℤ) (q r' : ℕ) → read_places (k + m) s p r ≡ places cs q r' → Parts k m s p r cs q r'
unfolding read_places
split zero m s p r cs q r' e = record { one = []; two = cs; mid = p; left = r; first = refl; second = rw zero-add at e; whole = refl; size = refl }
split (suc k) m s p (suc r) cs q r' e =
    let v = push_inv (pos 0) (read_places (k + m) s p r) cs q r' (rw suc-add at e) in
    let i = split k m s p r v.rest q r' v.is in
    record {
      one = pos 0 ∷ i.one;
      two = i.two;
      mid = i.mid;
      left = i.left;
      first = ap (place_then (pos 0)) i.first;
      second = i.second;
      whole = v.front ∙ ap (λ (l : List ℤ). pos 0 ∷ l) i.whole;
      size = ap suc i.size;
    }
split (suc k) m s p zero cs q r' e =
    let g = symbol_inv (read_symbol s p) (λ q0 r0. read_places (k + m) s q0 r0) cs q r' (rw suc-add at e) in
    let v = g.pushed in
    let i = split k m s g.to g.coming v.rest q r' v.is in
    record {
      one = g.cell ∷ i.one;
      two = i.two;
      mid = i.mid;
      left = i.left;
      first = g.same (λ q0 r0. read_places k s q0 r0) ∙ ap (place_then g.cell) i.first;
      second = i.second;
      whole = v.front ∙ ap (λ (l : List ℤ). g.cell ∷ l) i.whole;
      size = ap suc i.size;
    }

-- ---- block by block
abbrev pub coeffs_of : BlockRead → List ℤ
coeffs_of b = b.coeffs

abbrev All64 : List (List ℤ) → Type 0
All64 [] = Unit {0}
All64 (b ∷ bs) = (length b ≡ 64) × All64 bs

record BlocksAre (n : ℕ) (s : Stream) (p r : ℕ) (bs : List (List ℤ)) (q r' : ℕ) : Type 0 where
  got : List BlockRead
  is : read_blocks n s p r ≡ blocks got q r'
  same : map coeffs_of got ≡ bs

blocks_step : (b : List ℤ) (bs : List (List ℤ)) (s : Stream) (p r q r' : ℕ) → length b ≡ 64
    → ((p1 r1 : ℕ) → read_places (64 * length bs) s p1 r1 ≡ places (joined bs) q r' → BlocksAre (length bs) s p1 r1 bs q r')
    → Parts 64 (64 * length bs) s p r (b ++ joined bs) q r' → BlocksAre (suc (length bs)) s p r (b ∷ bs) q r'
unfolding read_blocks
blocks_step b bs s p r q r' h ih i = go (ih i.mid i.left (i.second ∙ ap (λ (l : List ℤ). places l q r') e2))
  where
    e1 : i.one ≡ b
    e1 = sym (take_at i.one i.two 64 i.size) ∙ ap (take 64) (sym i.whole) ∙ take_at b (joined bs) 64 h

    e2 : i.two ≡ joined bs
    e2 = sym (drop_at i.one i.two 64 i.size) ∙ ap (drop 64) (sym i.whole) ∙ drop_at b (joined bs) 64 h

    go : BlocksAre (length bs) s i.mid i.left bs q r' → BlocksAre (suc (length bs)) s p r (b ∷ bs) q r'
    go j =
        record {
          got = record { symbol_read = ltb r 64; coeffs = i.one } ∷ j.got;
          is = rw (i.first, j.is);
          same = ap₂ (λ (x : List ℤ) (y : List (List ℤ)). x ∷ y) e1 j.same;
        }

more : (n : ℕ) → 64 * suc n ≡ 64 + 64 * n
more n = omega arith

blocks_are : (bs : List (List ℤ)) (s : Stream) (p r q r' : ℕ) → All64 bs → read_places (64 * length bs) s p r ≡ places (joined bs) q r'
    → BlocksAre (length bs) s p r bs q r'
unfolding read_blocks read_places
blocks_are [] s p r q r' h e = record { got = []; is = rw (there, left); same = refl }
  where
    there : p ≡ q
    there = cc

    left : r ≡ r'
    left = cc
blocks_are (b ∷ bs) s p r q r' h e =
    blocks_step b bs s p r q r' h.0 (λ p1 r1 e1. blocks_are bs s p1 r1 q r' h.1 e1)
    (split 64 (64 * length bs) s p r (b ++ joined bs) q r' (ap (λ (n : ℕ). read_places n s p r) (sym (more (length bs))) ∙ e))

-- ---- the whole plane

-- blocks of 64 numbers of 16 bits
abbrev pub Blocks64 : List (List ℤ) → Type 0
Blocks64 [] = Unit {0}
Blocks64 (b ∷ bs) = (length b ≡ 64) × Fit16 b × Blocks64 bs

-- a DC and a block as they are read
abbrev pub dc_read : ℕ → ℤ → ℤ
dc_read shift d = sll_of (coded_dc shift d) shift

abbrev pub block_read : ℕ → List ℤ → List ℤ
block_read shift b = with_dc (dc_read shift (dc_of b)) b

pub record PlaneIs (shift : ℕ) (bs : List (List ℤ)) (dc ac : List ℕ) (pd pa qd qa : ℕ) : Type 0 where
  pub got : List BlockRead
  pub is : read_plane shift (length bs) dc ac pd pa ≡ plane_read got qd qa
  pub same : map coeffs_of got ≡ map (block_read shift) bs

coded_fits : (s : ℕ) (d : ℤ) → mag (coded_dc s d) < 32768
unfolding coded_dc add_of sra_of
coded_fits s d = (shr_fits (2 ^ s) (wrap16_fits _)).sfits

all_coded_fit : (s : ℕ) (ds : List ℤ) → Fit16 (map (coded_dc s) ds)
all_coded_fit s [] = tt
all_coded_fit s (d ∷ ds) = (coded_fits s d, all_coded_fit s ds)

sized : (bs : List (List ℤ)) → Blocks64 bs → All64 (map (with_dc (pos 0)) bs)
sized [] w = tt
sized ([] ∷ bs) w = (w.0, sized bs w.2)
sized ((c ∷ b) ∷ bs) w = (w.0, sized bs w.2)

fit_append : (xs ys : List ℤ) → Fit16 xs → Fit16 ys → Fit16 (xs ++ ys)
fit_append [] ys a b = b
fit_append (x ∷ xs) ys a b = (a.0, fit_append xs ys a.1 b)

all_fit : (bs : List (List ℤ)) → Blocks64 bs → Fit16 (joined (map (with_dc (pos 0)) bs))
all_fit [] w = tt
all_fit ([] ∷ bs) w = all_fit bs w.2
all_fit ((c ∷ b) ∷ bs) w = (omega arith, fit_append b (joined (map (with_dc (pos 0)) bs)) w.1.1 (all_fit bs w.2))

joined_length : (bs : List (List ℤ)) → All64 bs → length (joined bs) ≡ 64 * length bs
joined_length [] h = refl
joined_length (b ∷ bs) h = length-append b (joined bs) ∙ (omega (arith, h.0, joined_length bs h.1))

put_put : (v : ℤ) (b : List ℤ) → with_dc v (with_dc (pos 0) b) ≡ with_dc v b
put_put v [] = refl
put_put v (c ∷ b) = refl

dcs_zero : (bs : List (List ℤ)) (got : List BlockRead) → map coeffs_of got ≡ map (with_dc (pos 0)) bs → ac_dcs got ≡ replicate (length (map dc_of bs)) (pos 0)
dcs_zero [] [] e = refl
dcs_zero [] (g ∷ gs) e = cc
dcs_zero (b ∷ bs) [] e = cc
dcs_zero (b ∷ bs) (g ∷ gs) e = ap₂ (λ (x : ℤ) (y : List ℤ). x ∷ y) (ap dc_of first ∙ none b) (dcs_zero bs gs rest)
  where
    first : coeffs_of g ≡ with_dc (pos 0) b
    first = cc

    rest : map coeffs_of gs ≡ map (with_dc (pos 0)) bs
    rest = cc

    none : (l : List ℤ) → dc_of (with_dc (pos 0) l) ≡ pos 0
    none [] = refl
    none (c ∷ l) = refl

dcs_put : (f : ℤ → ℤ) (bs : List (List ℤ)) (got : List BlockRead) → map coeffs_of got ≡ map (with_dc (pos 0)) bs
    → map coeffs_of (with_dcs (map f (map dc_of bs)) got) ≡ map (λ b. with_dc (f (dc_of b)) b) bs
dcs_put f [] got e = refl
dcs_put f (b ∷ bs) [] e = cc
dcs_put f (b ∷ bs) (g ∷ gs) e =
    ap₂ (λ (x : List ℤ) (y : List (List ℤ)). x ∷ y) (ap (with_dc (f (dc_of b))) first ∙ put_put (f (dc_of b)) b) (dcs_put f bs gs rest)
  where
    first : coeffs_of g ≡ with_dc (pos 0) b
    first = cc

    rest : map coeffs_of gs ≡ map (with_dc (pos 0)) bs
    rest = cc

map_map : (f g : ℤ → ℤ) (l : List ℤ) → map f (map g l) ≡ map (λ x. f (g x)) l
map_map f g [] = refl
map_map f g (x ∷ l) = ap (λ (y : List ℤ). f (g x) ∷ y) (map_map f g l)

ends : (pre n : ℕ) → bytes_for (8 * pre + n) ≡ pre + bytes_for n
ends pre n = omega arith

module _ (h : ℕ) (bs : List (List ℤ)) (pd qd pa qa : List ℕ) (w : Blocks64 bs) (few : length bs < 2 ^ 32) where
  cells : List ℤ
  cells = joined (map (with_dc (pos 0)) bs)

  ac_bits : Stream
  ac_bits = bit_at (pa ++ (ac_stream bs ++ qa))

  coded : List ℤ
  coded = map (coded_dc h) (map dc_of bs)

  steps : List ℤ
  steps = steps_from (pos 0) coded

  dc_bits : Stream
  dc_bits = bit_at (pd ++ (dc_stream h bs ++ qd))

  ac_end_lem : ℕ
  ac_end_lem = 8 * length pa + length (symbol_codes 0 cells)

  dc_end_lem : ℕ
  dc_end_lem = 8 * length pd + length (step_codes steps)

  count : length (map (with_dc (pos 0)) bs) ≡ length bs
  count = length-map bs (with_dc (pos 0))

  ac_read : BlocksAre (length bs) ac_bits (8 * length pa) 0 (map (with_dc (pos 0)) bs) ac_end_lem 0
  unfolding cells ac_bits ac_end_lem ac_stream
  ac_read =
      subst (λ (n : ℕ). BlocksAre n ac_bits (8 * length pa) 0 (map (with_dc (pos 0)) bs) ac_end_lem 0) count
      (blocks_are (map (with_dc (pos 0)) bs) ac_bits (8 * length pa) 0 ac_end_lem 0 (sized bs w)
      (ap (λ (n : ℕ). read_places n ac_bits (8 * length pa) 0) len
      ∙ ac_back cells 0 ac_bits (8 * length pa) (all_fit bs w) (omega (arith, len, count)) (pad_to_byte_at pa qa (symbol_codes 0 cells))))
    where
      len : 64 * length (map (with_dc (pos 0)) bs) ≡ 0 + length cells
      len = omega (arith, joined_length (map (with_dc (pos 0)) bs) (sized bs w))

  steps_count : length steps ≡ length bs
  unfolding steps coded
  steps_count = length_steps (pos 0) (map (coded_dc h) (map dc_of bs)) ∙ length-map (map dc_of bs) (coded_dc h) ∙ length-map bs dc_of

  dc_read_lem : read_steps (length bs) dc_bits (8 * length pd) ≡ dc_steps (map as_read steps) dc_end_lem
  unfolding dc_bits dc_end_lem steps coded dc_stream
  dc_read_lem =
      ap (λ (n : ℕ). read_steps n dc_bits (8 * length pd)) (sym steps_count)
      ∙ steps_back steps dc_bits (8 * length pd) (steps_small (pos 0) coded (omega arith) (all_coded_fit h (map dc_of bs))) (pad_to_byte_at pd qd (step_codes steps))

  pub plane_back : PlaneIs h bs (pd ++ (dc_stream h bs ++ qd)) (pa ++ (ac_stream bs ++ qa)) (length pd) (length pa) (length pd + length (dc_stream h bs)) (length pa + length (ac_stream bs))
  unfolding read_plane dc_stream ac_stream ac_bits dc_bits ac_end_lem dc_end_lem cells steps coded
  plane_back = go ac_read
    where
      go : BlocksAre (length bs) ac_bits (8 * length pa) 0 (map (with_dc (pos 0)) bs) ac_end_lem 0
          → PlaneIs h bs (pd ++ (dc_stream h bs ++ qd)) (pa ++ (ac_stream bs ++ qa)) (length pd) (length pa) (length pd + length (dc_stream h bs)) (length pa + length (ac_stream bs))
      go j =
          record {
            got = with_dcs (map (dc_read h) (map dc_of bs)) j.got;
            is = ap₂ (both_streams h) dc_read_lem j.is ∙ joined_up;
            same = dcs_put (dc_read h) bs j.got j.same;
          }
        where
          dcs : predicted h (pos 0) (map as_read steps) (ac_dcs j.got) ≡ map (dc_read h) (map dc_of bs)
          dcs =
              ap (predicted h (pos 0) (map as_read steps)) (dcs_zero bs j.got j.same ∙ ap (λ (n : ℕ). replicate n (pos 0)) (sym (length-map (map dc_of bs) (coded_dc h))))
              ∙ ap (λ (q : ℤ). predicted h q (map as_read steps) (replicate (length coded) (pos 0))) (sym (shift_zero h))
              ∙ predicted_back h (pos 0) coded (omega arith) (all_coded_fit h (map dc_of bs))
              ∙ map_map (λ e. sll_of e h) (coded_dc h) (map dc_of bs)

          there : (pre : List ℕ) (bits : List Bool) → bytes_for (8 * length pre + length bits) ≡ length pre + length (pad_to_byte bits)
          there pre bits = ends (length pre) (length bits) ∙ ap (λ (x : ℕ). length pre + x) (sym (length_pad_to_byte bits))

          joined_up : both_streams h (dc_steps (map as_read steps) dc_end_lem) (blocks j.got ac_end_lem 0)
              ≡ plane_read (with_dcs (map (dc_read h) (map dc_of bs)) j.got) (length pd + length (dc_stream h bs)) (length pa + length (ac_stream bs))
          joined_up = λ i. plane_read (with_dcs (dcs i) j.got) (there pd (step_codes steps) i) (there pa (symbol_codes 0 cells) i)
