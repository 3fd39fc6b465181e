-- A list of reading calls gives back what was coded.
use mathlib.Core.Path.{◌≡◌, refl, sym, ap, ap₂, ◌∙◌, subst}
use mathlib.Core.List.{List, [], ◌∷◌, ◌++◌, map, append_assoc}
use Prim.Native.Nat.{ℕ, zero, suc, ◌+◌}
use native.Mathlib.Nat.{add-zero, add_assoc}
use lib.IntN.{ℤ}
use lib.ListN.{length, take, drop, length-append, length-map, take-append-drop}
use lib.Seq.{take-append-add}
use Rattle.calls.specs.Arguments.{Settings, Plane, Call, settings_of, planes_lent, planes_of, PerStream, Buffers, lengths_of}
use Rattle.calls.specs.Streams.{dc_stream, ac_stream}
use Rattle.calls.specs.ReadPlane.{BlockRead}
use Rattle.slice.specs.Plane.{coefficients}
use Rattle.calls.specs.Questions.{together}
use Rattle.slice.specs.Calls.{own_streams, PlanesRead, planes_read, read_planes, Decoded, rows_of, rows_made, decode}
use Rattle.slice.specs.CallLists.{number_before8, shape, FollowsBy, Follows, blocks_in, blocks_read}
use Rattle.slice.specs.Demand3.{PlanesBack, Answered, refused, accepted, AllAnswered}
use Rattle.slice.proofs.Runs.{decode_all}
use Rattle.calls.proofs.Legal.{not_bad}
use Rattle.slice.proofs.BlocksBack.{AllFine, fine_append, ManyIs, none_read, many_back, planes_append, planes_length, same_shapes, regroup}

map_join : {A B : Type 0} (f : A → B) (xs ys : List A) → map f (xs ++ ys) ≡ map f xs ++ map f ys
map_join f [] ys = refl
map_join f (x ∷ xs) ys = ap (λ l. f x ∷ l) (map_join f xs ys)

pub no_planes : (xs ys : List Plane) → xs ++ ys ≡ [] → (xs ≡ []) × (ys ≡ [])
no_planes [] ys e = (refl, e)
no_planes (x ∷ xs) ys e = (cc, cc)

pub own_append : (σ : Settings) (xs ys : List Plane)
    → own_streams σ (xs ++ ys)
    ≡ record { dc_bytes = (own_streams σ xs).dc_bytes ++ (own_streams σ ys).dc_bytes; ac_bytes = (own_streams σ xs).ac_bytes ++ (own_streams σ ys).ac_bytes }
unfolding own_streams
own_append σ [] ys = refl
own_append σ (x ∷ xs) ys =
    ap (λ (o : Buffers). record { dc_bytes = D ++ o.dc_bytes; ac_bytes = A ++ o.ac_bytes }) (own_append σ xs ys)
    ∙ sym (λ i. record {
      dc_bytes = append_assoc D (own_streams σ xs).dc_bytes (own_streams σ ys).dc_bytes i;
      ac_bytes = append_assoc A (own_streams σ xs).ac_bytes (own_streams σ ys).ac_bytes i;
    })
  where
    D : List ℕ
    D = dc_stream σ.shift (coefficients σ x)

    A : List ℕ
    A = ac_stream (coefficients σ x)

-- after xs, then after ys
ends_add : (σ : Settings) (at : PerStream) (xs ys : List Plane)
    → together (together at (lengths_of (own_streams σ xs))) (lengths_of (own_streams σ ys)) ≡ together at (lengths_of (own_streams σ (xs ++ ys)))
ends_add σ at xs ys =
    (λ i. record {
      dc = end at.dc (own_streams σ xs).dc_bytes (own_streams σ ys).dc_bytes i;
      ac = end at.ac (own_streams σ xs).ac_bytes (own_streams σ ys).ac_bytes i;
    })
    ∙ ap (λ (o : Buffers). together at (lengths_of o)) (sym (own_append σ xs ys))
  where
    end : (i : ℕ) (us vs : List ℕ) → i + length us + length vs ≡ i + length (us ++ vs)
    end i us vs = add_assoc i (length us) (length vs) ∙ ap (λ (n : ℕ). i + n) (sym (length-append us vs))

-- ---- one reading call
away_is : (c : Call) (b : Buffers) (at : PerStream) (n : ℕ) → number_before8 c b at ≡ suc n
    → decode c b at ≡ record { number = suc n; at = at; rows = rows_of (planes_lent c) }
unfolding decode
away_is c b at n e = rw e

made_is : (c : Call) (b : Buffers) (at end : PerStream) (got : List (List BlockRead)) → number_before8 c b at ≡ 0
    → read_planes (settings_of c).shift (planes_of c) b at ≡ planes_read got end
    → decode c b at ≡ record { number = 0; at = end; rows = rows_made (settings_of c) (planes_lent c) got }
unfolding decode
made_is c b at end got e m = rw (e, m)

-- ---- what a list of reading calls is to give, with the planes that it read
pub record Back (σ : Settings) (unread : List Plane) (cs : List Call) (b : Buffers) (at : PerStream) : Type 0 where
  pub answered : AllAnswered cs b at (decode_all cs b at).answers
  pub done : List Plane
  pub is_done : take (length (blocks_read cs b at (decode_all cs b at).answers)) unread ≡ done
  pub back : PlanesBack σ.shift (map (coefficients σ) done) (blocks_read cs b at (decode_all cs b at).answers)
  pub positions : (decode_all cs b at).at ≡ together at (lengths_of (own_streams σ done))

nil_back : (σ : Settings) (unread : List Plane) (b : Buffers) (at : PerStream) → Back σ unread [] b at
unfolding blocks_read decode_all own_streams
nil_back σ unread b at =
    record { answered = tt; done = []; is_done = refl; back = tt; positions = sym (λ i. record { dc = add-zero at.dc i; ac = add-zero at.ac i }) }

away_back : (σ : Settings) (unread : List Plane) (c : Call) (cs : List Call) (b : Buffers) (at : PerStream) (n : ℕ) → number_before8 c b at ≡ suc n
    → Back σ unread cs b (decode c b at).at → Back σ unread (c ∷ cs) b at
unfolding blocks_read decode_all
away_back σ unread c cs b at n e r =
    record {
      answered = (subst (Answered c b at) (sym is) (refused n e (λ z. not_bad c (lengths_of b) at (e ∙ z))), r.answered);
      done = r.done;
      is_done = ap (λ (l : List (List BlockRead)). take (length l) unread) blocks_are ∙ r.is_done;
      back = subst (PlanesBack σ.shift (map (coefficients σ) r.done)) (sym blocks_are) r.back;
      positions = r.positions ∙ ap (λ (x : Decoded). together x.at (lengths_of (own_streams σ r.done))) is;
    }
  where
    is : decode c b at ≡ record { number = suc n; at = at; rows = rows_of (planes_lent c) }
    is = away_is c b at n e

    blocks_are : blocks_read (c ∷ cs) b at (decode_all (c ∷ cs) b at).answers ≡ blocks_read cs b (decode c b at).at (decode_all cs b (decode c b at).at).answers
    blocks_are =
        ap (λ (x : Decoded). blocks_in x.number (read_planes (settings_of c).shift (planes_of c) b at) ++ blocks_read cs b (decode c b at).at (decode_all cs b (decode c b at).at).answers) is

made_back : (σ : Settings) (unread ns rest : List Plane) (c : Call) (cs : List Call) (b : Buffers) (at : PerStream) → number_before8 c b at ≡ 0
    → settings_of c ≡ σ → map shape (planes_of c) ≡ map shape ns → unread ≡ ns ++ rest
    → ManyIs σ ns b at (together at (lengths_of (own_streams σ ns)))
    → Back σ rest cs b (decode c b at).at → Back σ unread (c ∷ cs) b at
unfolding blocks_read decode_all
made_back σ unread ns rest c cs b at e eσ es eu m r =
    record {
      answered = (subst (Answered c b at) (sym is) (accepted m.got end e read_is), r.answered);
      done = ns ++ r.done;
      is_done = ap₂ (λ (l : List (List BlockRead)) (u : List Plane). take (length l) u) blocks_are eu
          ∙ ap (λ (n : ℕ). take n (ns ++ rest)) (length-append m.got R ∙ ap (λ (n : ℕ). n + length R) counted)
          ∙ take-append-add ns rest (length R) ∙ ap (λ (l : List Plane). ns ++ l) r.is_done;
      back = subst (PlanesBack σ.shift (map (coefficients σ) (ns ++ r.done))) (sym blocks_are)
          (subst (λ (q : List (List (List ℤ))). PlanesBack σ.shift q (m.got ++ R)) (sym (map_join (coefficients σ) ns r.done))
          (planes_append σ.shift (map (coefficients σ) ns) (map (coefficients σ) r.done) m.got R m.back r.back));
      positions = r.positions ∙ ap (λ (x : Decoded). together x.at (lengths_of (own_streams σ r.done))) is ∙ ends_add σ at ns r.done;
    }
  where
    end : PerStream
    end = together at (lengths_of (own_streams σ ns))

    read_is : read_planes (settings_of c).shift (planes_of c) b at ≡ planes_read m.got end
    read_is = ap (λ (s : Settings). read_planes s.shift (planes_of c) b at) eσ ∙ same_shapes σ.shift (planes_of c) ns b at es ∙ m.is

    is : decode c b at ≡ record { number = 0; at = end; rows = rows_made (settings_of c) (planes_lent c) m.got }
    is = made_is c b at end m.got e read_is

    R : List (List BlockRead)
    R = blocks_read cs b (decode c b at).at (decode_all cs b (decode c b at).at).answers

    blocks_are : blocks_read (c ∷ cs) b at (decode_all (c ∷ cs) b at).answers ≡ m.got ++ R
    blocks_are = ap₂ (λ (x : Decoded) (y : PlanesRead). blocks_in x.number y ++ R) is read_is

    counted : length m.got ≡ length ns
    counted = planes_length σ.shift (map (coefficients σ) ns) m.got m.back ∙ length-map ns (coefficients σ)

-- the unread planes' streams lie at the positions, or no plane is unread
pub data Lies (σ : Settings) (b : Buffers) (at : PerStream) (unread : List Plane) : Type 0 where
  nothing : unread ≡ [] → Lies σ b at unread
  lies : (pd qd pa qa : List ℕ) → b.dc_bytes ≡ pd ++ ((own_streams σ unread).dc_bytes ++ qd) → b.ac_bytes ≡ pa ++ ((own_streams σ unread).ac_bytes ++ qa)
      → at.dc ≡ length pd → at.ac ≡ length pa → Lies σ b at unread

next : (σ : Settings) (b : Buffers) (at : PerStream) (unread ns rest : List Plane) → unread ≡ ns ++ rest → AllFine σ ns → Lies σ b at unread
    → ManyIs σ ns b at (together at (lengths_of (own_streams σ ns))) × Lies σ b (together at (lengths_of (own_streams σ ns))) rest
next σ b at unread ns rest eu f (nothing h) =
    let z = no_planes ns rest (sym eu ∙ h) in
    (subst (λ (l : List Plane). ManyIs σ l b at (together at (lengths_of (own_streams σ l)))) (sym z.0) (none_read σ b at), nothing z.1)
next σ b at unread ns rest eu f (lies pd qd pa qa e1 e2 e3 e4) = (
  many_back σ ns b pd (R ++ qd) pa (S ++ qa) at f (d1 ∙ ap (λ (l : List ℕ). pd ++ l) (append_assoc D R qd)) (a1 ∙ ap (λ (l : List ℕ). pa ++ l) (append_assoc A S qa)) e3 e4,
  lies (pd ++ D) qd (pa ++ A) qa (regroup b.dc_bytes pd D R qd d1) (regroup b.ac_bytes pa A S qa a1)
      (ap (λ (n : ℕ). n + length D) e3 ∙ sym (length-append pd D)) (ap (λ (n : ℕ). n + length A) e4 ∙ sym (length-append pa A)),
)
  where
    D : List ℕ
    D = (own_streams σ ns).dc_bytes

    A : List ℕ
    A = (own_streams σ ns).ac_bytes

    R : List ℕ
    R = (own_streams σ rest).dc_bytes

    S : List ℕ
    S = (own_streams σ rest).ac_bytes

    parts : own_streams σ unread ≡ record { dc_bytes = D ++ R; ac_bytes = A ++ S }
    parts = ap (own_streams σ) eu ∙ own_append σ ns rest

    d1 : b.dc_bytes ≡ pd ++ ((D ++ R) ++ qd)
    d1 = e1 ∙ ap (λ (o : Buffers). pd ++ (o.dc_bytes ++ qd)) parts

    a1 : b.ac_bytes ≡ pa ++ ((A ++ S) ++ qa)
    a1 = e2 ∙ ap (λ (o : Buffers). pa ++ (o.ac_bytes ++ qa)) parts

turn : (n : ℕ) (σ : Settings) (unread : List Plane) (c : Call) (cs : List Call) (b : Buffers) (at : PerStream) → number_before8 c b at ≡ n
    → AllFine σ unread → Lies σ b at unread → FollowsBy n σ unread c (λ rest. Follows σ rest cs b (decode c b at).at (decode_all cs b (decode c b at).at).answers)
    → ((u : List Plane) → AllFine σ u → Lies σ b (decode c b at).at u → Follows σ u cs b (decode c b at).at (decode_all cs b (decode c b at).at).answers → Back σ u cs b (decode c b at).at)
    → Back σ unread (c ∷ cs) b at
turn (suc n) σ unread c cs b at e f l w ih =
    away_back σ unread c cs b at n e
    (ih unread f (subst (λ (x : Decoded). Lies σ b x.at unread) (sym (away_is c b at n e)) l) w)
turn zero σ unread c cs b at e f l w ih =
    made_back σ unread ns rest c cs b at e w.0 w.1 eu step.0
    (ih rest parts.1 (subst (λ (x : Decoded). Lies σ b x.at rest) (sym is) step.1) w.2)
  where
    ns : List Plane
    ns = take (length (planes_of c)) unread

    rest : List Plane
    rest = drop (length (planes_of c)) unread

    eu : unread ≡ ns ++ rest
    eu = sym (take-append-drop (length (planes_of c)) unread)

    parts : AllFine σ ns × AllFine σ rest
    parts = fine_append σ ns rest (subst (AllFine σ) eu f)

    step : ManyIs σ ns b at (together at (lengths_of (own_streams σ ns))) × Lies σ b (together at (lengths_of (own_streams σ ns))) rest
    step = next σ b at unread ns rest eu parts.0 l

    read_is : read_planes (settings_of c).shift (planes_of c) b at ≡ planes_read step.0.got (together at (lengths_of (own_streams σ ns)))
    read_is = ap (λ (s : Settings). read_planes s.shift (planes_of c) b at) w.0 ∙ same_shapes σ.shift (planes_of c) ns b at w.1 ∙ step.0.is

    is : decode c b at ≡ record { number = 0; at = together at (lengths_of (own_streams σ ns)); rows = rows_made (settings_of c) (planes_lent c) step.0.got }
    is = made_is c b at (together at (lengths_of (own_streams σ ns))) step.0.got e read_is

pub list_read : (σ : Settings) (cs : List Call) (unread : List Plane) (b : Buffers) (at : PerStream) → AllFine σ unread → Lies σ b at unread
    → Follows σ unread cs b at (decode_all cs b at).answers → Back σ unread cs b at
unfolding Follows decode_all
list_read σ [] unread b at f l w = nil_back σ unread b at
list_read σ (c ∷ cs) unread b at f l w =
    turn (number_before8 c b at) σ unread c cs b at refl f l w (λ u fu lu wu. list_read σ cs u b (decode c b at).at fu lu wu)
