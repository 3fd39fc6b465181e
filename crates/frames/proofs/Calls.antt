-- A frame that is built by any calls, refused ones among them, and is called complete, is read.
use mathlib.Core.Path.{◌≡◌, refl, sym, ap, ap₂, ◌∙◌, subst}
use mathlib.Core.Bool.{Bool, true, false}
use mathlib.Core.List.{List, [], ◌∷◌, ◌++◌, append_assoc, append-nil}
use Prim.Native.Nat.{ℕ, zero, suc, ◌+◌, ◌≤◌, ◌<◌}
use native.Mathlib.Omega.{arith}
use lib.Dec.{eqb}
use lib.ListN.{length, length-append}
use borrow.Author.Tests.{eq-eqb, ne_eqb, eqb-true, eqb-false}
use Rattle.ask.specs.Limits.{shift_max}
use Rattle.ask.specs.Ask.{Answer, refused, accepted, first_no, asked}
use Rattle.bits.specs.Lay.{lay}
use Rattle.bits.proofs.LayLaw.{lay_lay}
use Rattle.layout.specs.Geometry.{slice_count, max_dc_len, max_ac_len}
use Rattle.parser.specs.Frame.{parse_of}
use Rattle.builder.specs.Build.{Build, Built, header_size, header_bytes, count_byte, start_questions, header_of, started}
use Rattle.builder.specs.streams.Put.{stream_bytes, stream_questions, after_stream, all_streams, write_of, is_complete, complete_of}
use Rattle.builder.proofs.Laws.{starts, Starts, header_no, header_yes}
use Rattle.builder.proofs.streams.Laws.{puts, Puts, stream_no, stream_done, after_ac, after_last, after_dc}
use Rattle.frames.specs.Whole.{Within, AllOrNone, Complete, frame_in}
use Rattle.frames.specs.Calls.{PutCall, answer_to, kept, after_calls, taken, all_taken, whole_counts, any_stream}
use Rattle.frames.proofs.Put.{stream_length, header_length_lem}
use Rattle.frames.proofs.Read.{read_back, read_dc_lem, read_both}
use Rattle.frames.proofs.Views.{none, a_slice}
use Rattle.frames.proofs.Built.{frame_is}

-- ---- one stream more
streams_more : (ss : List (List ℕ)) (s : List ℕ) → all_streams (ss ++ (s ∷ [])) ≡ all_streams ss ++ stream_bytes s
unfolding all_streams
streams_more [] s = append-nil (stream_bytes s)
streams_more (u ∷ us) s = ap (λ (l : List ℕ). stream_bytes u ++ l) (streams_more us s) ∙ sym (append_assoc (stream_bytes u) (all_streams us) (stream_bytes s))

within_more : (limit : ℕ) (ss : List (List ℕ)) (s : List ℕ) → Within limit ss → length s ≤ limit → Within limit (ss ++ (s ∷ []))
within_more limit [] s v l = (l, tt)
within_more limit (u ∷ us) s v l = (v.0, within_more limit us s v.1 l)

length_more : (ss : List (List ℕ)) (s : List ℕ) → length (ss ++ (s ∷ [])) ≡ length ss + 1
length_more ss s = length-append ss (s ∷ [])

-- ---- where the calls stand, by the streams that were accepted
abbrev Stage : ℕ → Bool → ℕ → List (List ℕ) → List (List ℕ) → Type 0
Stage slices false next dc ac = (ac ≡ []) × (next ≡ length dc) × (length dc < slices)
Stage slices true next dc ac = (length dc ≡ slices) × (next ≡ length ac) × (length ac ≤ slices)

abbrev bytes_of_frame : List ℕ → List (List ℕ) → List (List ℕ) → List ℕ
bytes_of_frame head dc ac = head ++ (all_streams dc ++ all_streams ac)

pub record Reached (w h : ℕ) (head out : List ℕ) (at : ℕ) (dc ac : List (List ℕ)) (b : Built) : Type 0 where
  pub room : at ≤ length out
  pub place : b.state.at ≡ at + length (bytes_of_frame head dc ac)
  pub laid : b.bytes ≡ lay out at (bytes_of_frame head dc ac)
  pub dc_fit : Within (max_dc_len w) dc
  pub ac_fit : Within (max_ac_len w) ac
  pub stage : Stage (slice_count h) b.state.ac_turn b.state.next dc ac

more_dc : (head : List ℕ) (dc ac : List (List ℕ)) (s : List ℕ) → ac ≡ [] → bytes_of_frame head dc ac ++ stream_bytes s ≡ bytes_of_frame head (dc ++ (s ∷ [])) ac
more_dc head dc ac s e =
    let x = all_streams dc in
    let y = stream_bytes s in
    let n : all_streams ac ≡ [] = ap all_streams e ∙ none in
    ap (λ (l : List ℕ). (head ++ (x ++ l)) ++ y) n ∙ ap (λ (l : List ℕ). (head ++ l) ++ y) (append-nil x) ∙ append_assoc head x y
    ∙ ap (λ (l : List ℕ). head ++ l) (sym (streams_more dc s) ∙ sym (append-nil (all_streams (dc ++ (s ∷ []))))) ∙ ap (λ (l : List ℕ). head ++ (all_streams (dc ++ (s ∷ [])) ++ l)) (sym n)

more_ac : (head : List ℕ) (dc ac : List (List ℕ)) (s : List ℕ) → bytes_of_frame head dc ac ++ stream_bytes s ≡ bytes_of_frame head dc (ac ++ (s ∷ []))
more_ac head dc ac s =
    let x = all_streams dc in
    let y = all_streams ac in
    append_assoc head (x ++ y) (stream_bytes s)
    ∙ ap (λ (l : List ℕ). head ++ l) (append_assoc x y (stream_bytes s) ∙ ap (λ (l : List ℕ). x ++ l) (sym (streams_more ac s)))

module _ (w h : ℕ) (head out : List ℕ) (at : ℕ) where
  -- a stream that was accepted
  module _ (dc ac : List (List ℕ)) (b : Built) (r : Reached w h head out at dc ac b) (slice : ℕ) (s : List ℕ) where
    abbrev end : ℕ
    end = b.state.at + (4 + length s)

    put_laid : lay b.bytes b.state.at (stream_bytes s) ≡ lay out at (bytes_of_frame head dc ac ++ stream_bytes s)
    put_laid =
        ap₂ (λ (l : List ℕ) (p : ℕ). lay l p (stream_bytes s)) r.laid r.place ∙ lay_lay out at (bytes_of_frame head dc ac) r.room (stream_bytes s)

    put_place : (l : List ℕ) → bytes_of_frame head dc ac ++ stream_bytes s ≡ l → end ≡ at + length l
    put_place l e = omega (arith, r.place, ap length e, length-append (bytes_of_frame head dc ac) (stream_bytes s), stream_length s)

    dc_stage : b.state.ac_turn ≡ false → Stage (slice_count h) false b.state.next dc ac
    dc_stage t = subst (λ (k : Bool). Stage (slice_count h) k b.state.next dc ac) t r.stage

    ac_stage : b.state.ac_turn ≡ true → Stage (slice_count h) true b.state.next dc ac
    ac_stage t = subst (λ (k : Bool). Stage (slice_count h) k b.state.next dc ac) t r.stage

    abbrev next : Build → Built
    next state = record { state = state; bytes = lay b.bytes b.state.at (stream_bytes s) }

    one_dc : Puts w h b.state false slice (length s) (length b.bytes) → Reached w h head out at (dc ++ (s ∷ [])) ac (next (after_stream (slice_count h) b.state end))
    one_dc p = go (eqb (b.state.next + 1) (slice_count h)) refl
      where
        t : b.state.ac_turn ≡ false
        t = p.turn.kind

        made : (state : Build) → state.at ≡ end → Stage (slice_count h) state.ac_turn state.next (dc ++ (s ∷ [])) ac → Reached w h head out at (dc ++ (s ∷ [])) ac (next state)
        made state e g =
            record {
              room = r.room;
              place = e ∙ put_place (bytes_of_frame head (dc ++ (s ∷ [])) ac) (more_dc head dc ac s (dc_stage t).0);
              laid = put_laid ∙ ap (lay out at) (more_dc head dc ac s (dc_stage t).0);
              dc_fit = within_more (max_dc_len w) dc s r.dc_fit p.within;
              ac_fit = r.ac_fit;
              stage = g;
            }

        go : (l : Bool) → eqb (b.state.next + 1) (slice_count h) ≡ l → Reached w h head out at (dc ++ (s ∷ [])) ac (next (after_stream (slice_count h) b.state end))
        go true l =
            rw (← after_last (slice_count h) b.state end t l)
            (made (record { ac_turn = true; next = 0; at = end }) refl (
              omega (arith, length_more dc s, (dc_stage t).1, eqb-true (b.state.next + 1) (slice_count h) l),
              ap length (sym (dc_stage t).0),
              omega (arith, ap length (dc_stage t).0),
            ))
        go false l =
            rw (← after_dc (slice_count h) b.state end t l)
            (made (record { ac_turn = false; next = b.state.next + 1; at = end }) refl (
              (dc_stage t).0,
              omega (arith, length_more dc s, (dc_stage t).1),
              below (eqb-false (b.state.next + 1) (slice_count h) l),
            ))
          where
            below : (b.state.next + 1 ≡ slice_count h → ⊥) → length (dc ++ (s ∷ [])) < slice_count h
            below f = omega (arith, length_more dc s, (dc_stage t).1, p.turn.below, f)

    one_ac : Puts w h b.state true slice (length s) (length b.bytes) → Reached w h head out at dc (ac ++ (s ∷ [])) (next (after_stream (slice_count h) b.state end))
    one_ac p =
        let t : b.state.ac_turn ≡ true = p.turn.kind in
        let g = ac_stage t in
        rw (← after_ac (slice_count h) b.state end t)
        (record {
          room = r.room;
          place = put_place (bytes_of_frame head dc (ac ++ (s ∷ []))) (more_ac head dc ac s);
          laid = put_laid ∙ ap (lay out at) (more_ac head dc ac s);
          dc_fit = r.dc_fit;
          ac_fit = within_more (max_ac_len w) ac s r.ac_fit p.within;
          stage = (g.0, omega (arith, length_more ac s, g.1), omega (arith, length_more ac s, g.1, p.turn.below));
        })

  -- a call, accepted or refused
  module _ (dc ac : List (List ℕ)) (b : Built) (r : Reached w h head out at dc ac b) where
    same_there : Reached w h head out at (dc ++ []) (ac ++ []) b
    same_there = subst (λ (x : List (List ℕ)). Reached w h head out at x (ac ++ []) b) (sym (append-nil dc)) (subst (λ (x : List (List ℕ)). Reached w h head out at dc x b) (sym (append-nil ac)) r)

    one_put : (kind : Bool) (slice : ℕ) (s : List ℕ) → Puts w h b.state kind slice (length s) (length b.bytes)
        → let a : Answer Built = accepted (record { state = after_stream (slice_count h) b.state (b.state.at + (4 + length s)); bytes = lay b.bytes b.state.at (stream_bytes s) }) in
        let c : PutCall = record { ac = kind; slice = slice; stream = s } in
        Reached w h head out at (dc ++ taken false c a) (ac ++ taken true c a) (kept b a)
    one_put false slice s p =
        subst (λ (x : List (List ℕ)). Reached w h head out at (dc ++ (s ∷ [])) x (record { state = after_stream (slice_count h) b.state (b.state.at + (4 + length s)); bytes = lay b.bytes b.state.at (stream_bytes s) }))
        (sym (append-nil ac)) (one_dc dc ac b r slice s p)
    one_put true slice s p =
        subst (λ (x : List (List ℕ)). Reached w h head out at x (ac ++ (s ∷ [])) (record { state = after_stream (slice_count h) b.state (b.state.at + (4 + length s)); bytes = lay b.bytes b.state.at (stream_bytes s) }))
        (sym (append-nil dc)) (one_ac dc ac b r slice s p)

    one_call : (c : PutCall) → Reached w h head out at (dc ++ taken false c (answer_to w h c b)) (ac ++ taken true c (answer_to w h c b)) (kept b (answer_to w h c b))
    one_call c = go (first_no (stream_questions w h b.state c.ac c.slice (length c.stream) (length b.bytes))) refl
      where
        go : (n : ℕ) → first_no (stream_questions w h b.state c.ac c.slice (length c.stream) (length b.bytes)) ≡ n
            → Reached w h head out at (dc ++ taken false c (answer_to w h c b)) (ac ++ taken true c (answer_to w h c b)) (kept b (answer_to w h c b))
        go zero f =
            subst (λ (a : Answer Built). Reached w h head out at (dc ++ taken false c a) (ac ++ taken true c a) (kept b a))
            (sym (stream_done w h b.state c.ac c.slice c.stream b.bytes f))
            (one_put c.ac c.slice c.stream (puts w h b.state c.ac c.slice (length c.stream) (length b.bytes) f))
        go (suc n) f =
            subst (λ (a : Answer Built). Reached w h head out at (dc ++ taken false c a) (ac ++ taken true c a) (kept b a))
            (sym (stream_no w h b.state c.ac c.slice c.stream b.bytes (sym f) (omega arith)))
            same_there

  -- all calls
  reached : (cs : List PutCall) (dc ac : List (List ℕ)) (b : Built) → Reached w h head out at dc ac b
      → Reached w h head out at (dc ++ all_taken w h false cs b) (ac ++ all_taken w h true cs b) (after_calls w h cs b)
  unfolding all_taken after_calls
  reached [] dc ac b r = same_there dc ac b r
  reached (c ∷ cs) dc ac b r =
      let a = answer_to w h c b in
      let k = reached cs (dc ++ taken false c a) (ac ++ taken true c a) (kept b a) (one_call dc ac b r c) in
      subst (λ (x : List (List ℕ)). Reached w h head out at x (ac ++ (taken true c a ++ all_taken w h true cs (kept b a))) (after_calls w h cs (kept b a)))
      (append_assoc dc (taken false c a) (all_taken w h false cs (kept b a)))
      (subst (λ (x : List (List ℕ)). Reached w h head out at ((dc ++ taken false c a) ++ all_taken w h false cs (kept b a)) x (after_calls w h cs (kept b a)))
      (append_assoc ac (taken true c a) (all_taken w h true cs (kept b a))) k)

-- ---- a state that was reached
counts : (slices : ℕ) (t : Bool) (next : ℕ) (dc ac : List (List ℕ)) → Stage slices t next dc ac → is_complete slices t next ≡ whole_counts slices (length dc) (length ac)
counts slices false next dc ac g = rw (ne_eqb (length dc) slices (λ e. omega (arith, g.2)))
counts slices true next dc ac g = rw (eq-eqb (length dc) slices g.0, g.1)

-- what the counts of a whole frame say
no_truth : {A : Type 0} → false ≡ true → A
no_truth e = absurd (cc)

all_dc : (slices d a : ℕ) → whole_counts slices d a ≡ true → d ≡ slices
all_dc slices d a e = go (eqb d slices) refl
  where
    go : (x : Bool) → eqb d slices ≡ x → d ≡ slices
    go true f = eqb-true d slices f
    go false f = no_truth (rw f at e)

all_ac_lem : (w h : ℕ) (ac : List (List ℕ)) (d : ℕ) → whole_counts (slice_count h) d (length ac) ≡ true → AllOrNone h ac []
all_ac_lem w h [] d e = refl
all_ac_lem w h (a ∷ rest) d e = go (eqb d (slice_count h)) refl (eqb (length (a ∷ rest)) (slice_count h)) refl
  where
    go : (x : Bool) → eqb d (slice_count h) ≡ x → (y : Bool) → eqb (length (a ∷ rest)) (slice_count h) ≡ y → length (a ∷ rest) ≡ slice_count h
    go x f true g = eqb-true (length (a ∷ rest)) (slice_count h) g
    go false f false g = no_truth (rw f at e)
    go true f false g = no_truth (rw (f, ne_eqb (length (a ∷ rest)) 0 (λ z. omega arith), g) at e)

-- ---- a complete frame is read
pub whole_read : (w h : ℕ) (interlaced : Bool) (quality shift : ℕ) (dc ac : List (List ℕ)) → shift ≤ shift_max → Complete w h dc ac []
    → parse_of w h (write_of h interlaced quality shift dc ac) ≡ accepted (read_back h interlaced quality shift (any_stream ac))
unfolding write_of
whole_read w h interlaced quality shift [] ac small p = absurd (a_slice w h p.size p.dc_all)
whole_read w h interlaced quality shift (s ∷ ss) [] small p =
    ap (λ (l : List ℕ). parse_of w h (header_bytes interlaced quality shift (count_byte h) ++ (all_streams (s ∷ ss) ++ l))) none
    ∙ read_dc_lem w h interlaced quality shift p.size small s ss p.dc_all p.dc_fit
whole_read w h interlaced quality shift (s ∷ ss) (a ∷ rest) small p =
    ap (λ (l : List ℕ). parse_of w h (header_bytes interlaced quality shift (count_byte h) ++ (all_streams (s ∷ ss) ++ l))) (sym (append-nil (all_streams (a ∷ rest))))
    ∙ read_both w h interlaced quality shift p.size small s ss p.dc_all p.dc_fit a rest p.ac_all p.ac_fit []

-- ---- the header was accepted, then any calls
module _ (w h : ℕ) (interlaced : Bool) (quality shift : ℕ) (out : List ℕ) (at : ℕ) (first : Built) (begun : header_of w h interlaced quality shift out at ≡ accepted first) (calls : List PutCall) where
  abbrev dc : List (List ℕ)
  dc = all_taken w h false calls first

  abbrev ac : List (List ℕ)
  ac = all_taken w h true calls first

  abbrev last : Built
  last = after_calls w h calls first

  abbrev head : List ℕ
  head = header_bytes interlaced quality shift (count_byte h)

  record Begun : Type 0 where
    yes : Starts w h shift (length out) at
    is : first ≡ record { state = started (at + header_size shift); bytes = lay out at head }

  began : Begun
  began = go (first_no (start_questions w h shift (length out) at)) refl
    where
      never : {n : ℕ} → ◌≡◌ {A = Answer Built} (refused n) (accepted first) → ⊥
      never f = cc

      go : (n : ℕ) → first_no (start_questions w h shift (length out) at) ≡ n → Begun
      go zero f =
          record {
            yes = starts w h shift (length out) at f;
            is = let z = sym begun ∙ header_yes w h interlaced quality shift out at f in cc;
          }
      go (suc n) f = absurd (never (sym (header_no w h interlaced quality shift out at (sym f) (omega arith)) ∙ begun))

  at_start : 0 < slice_count h → Reached w h head out at [] [] first
  unfolding all_streams
  at_start n =
      rw began.is
      (record {
        room = omega (arith, began.yes.room);
        place = omega (arith, ap length (append-nil head), header_length_lem interlaced quality shift (count_byte h));
        laid = ap (lay out at) (sym (append-nil head));
        dc_fit = tt;
        ac_fit = tt;
        stage = (refl, refl, n);
      })

  some_slice : 0 < slice_count h
  some_slice = go (slice_count h) refl
    where
      go : (n : ℕ) → slice_count h ≡ n → 0 < slice_count h
      go zero e = absurd (a_slice w h began.yes.size (sym e))
      go (suc n) e = omega (arith, e)

  there : Reached w h head out at dc ac last
  there = reached w h head out at calls [] [] first (at_start some_slice)

  -- after any calls the builder's bytes are `write`'s, of the streams that were accepted
  pub calls_built : frame_in at last ≡ write_of h interlaced quality shift dc ac
  unfolding write_of
  calls_built =
      ap (λ (l : List ℕ). frame_in at (record { state = last.state; bytes = l })) there.laid
      ∙ frame_is last.state out at (bytes_of_frame head dc ac) there.room there.place

  -- and `complete_of` says whether they are the DC streams of all slices and the AC streams of all or of none
  pub calls_counted : complete_of w h last.state.ac_turn last.state.next ≡ accepted (whole_counts (slice_count h) (length dc) (length ac))
  unfolding complete_of asked first_no
  calls_counted = rw (began.yes.size, counts (slice_count h) last.state.ac_turn last.state.next dc ac there.stage) refl

  same_truth : {x y : Bool} → ◌≡◌ {A = Answer Bool} (accepted x) (accepted y) → x ≡ y
  same_truth e = cc

  pub calls_whole : complete_of w h last.state.ac_turn last.state.next ≡ accepted true → Complete w h dc ac []
  calls_whole e =
      let k : whole_counts (slice_count h) (length dc) (length ac) ≡ true = same_truth (sym calls_counted ∙ e) in
      record {
        size = began.yes.size;
        dc_all = all_dc (slice_count h) (length dc) (length ac) k;
        dc_fit = there.dc_fit;
        ac_all = all_ac_lem w h ac (length dc) k;
        ac_fit = there.ac_fit;
      }

  -- a frame that is called complete is read: no question about it is answered no, 13 neither
  pub calls_read : complete_of w h last.state.ac_turn last.state.next ≡ accepted true → parse_of w h (frame_in at last) ≡ accepted (read_back h interlaced quality shift (any_stream ac))
  calls_read e = ap (parse_of w h) calls_built ∙ whole_read w h interlaced quality shift dc ac began.yes.small (calls_whole e)
