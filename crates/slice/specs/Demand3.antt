-- Demand 3: what is claimed of whole lists of calls, whatever the calls are that run. Its proof is proofs/Demand3.
use Rattle.std.specs.Prelude.{◌≡◌, List, [], ◌∷◌, ◌++◌, map, ℕ, zero, suc, ◌+◌, ◌/◌, ◌^◌, ◌≤◌, ℤ, nat_abs, ◌-ℤ◌, length, take, drop}
use Rattle.calls.specs.Arguments.{Settings, Plane, Call, settings_of, planes_lent, planes_of, PerStream, Buffers, lengths_of}
use Rattle.calls.specs.Streams.{dc_of}
use Rattle.calls.specs.ReadPlane.{BlockRead}
use Rattle.slice.specs.Plane.{coefficients}
use Rattle.calls.specs.Questions.{together}
use Rattle.slice.specs.Calls.{Coded, own_streams, planes_read, read_planes, Decoded, rows_of, rows_made}
use Rattle.slice.specs.CallLists.{CodedAll, Coding, DecodedAll, Reading, Fed, Book, empty_book, book_at, book_after, book_answers, planes_coded, put_behind, OneSetting, number_before8, Follows, blocks_read}
use Rattle.ask.specs.Numbers.{no_code}

-- ---- the coding half

-- a buffer at exit: the row from the start on, "all other bytes as before"
pub record Written (before row after : List ℕ) (start : ℕ) : Type 0 where
  pub same_length : length after ≡ length before
  pub in_front_lem : take start after ≡ take start before
  pub the_row : take (length row) (drop start after) ≡ row
  pub behind : drop (start + length row) after ≡ drop (start + length row) before

abbrev pub fed : Buffers → PerStream → Fed
fed buffers starts = record { starts = starts; lengths = lengths_of buffers }

-- the book after a list, and the planes that it took in
abbrev pub book : List Call → Buffers → PerStream → Book
book calls buffers starts = book_after (fed buffers starts) empty_book calls

abbrev pub planes : List Call → Buffers → PerStream → List Plane
planes calls buffers starts = planes_coded (fed buffers starts) empty_book calls

-- "each call's refusal, number and positions are those of document 01's book; after the list the DC and AC bytes from the starts to the last
-- positions are exactly the book's; all other bytes of both buffers are as before"
pub record CodingHalf (calls : List Call) (buffers : Buffers) (starts : PerStream) (k : CodedAll) : Type 0 where
  pub answers : k.answers ≡ book_answers (fed buffers starts) empty_book calls
  pub positions : k.at ≡ book_at (fed buffers starts) (book calls buffers starts)
  pub dc_bytes_lem : Written buffers.dc_bytes (book calls buffers starts).dc_row k.buffers.dc_bytes starts.dc
  pub ac_bytes_lem : Written buffers.ac_bytes (book calls buffers starts).ac_row k.buffers.ac_bytes starts.ac

-- ---- the reading half

-- "each AC coefficient read equals the one quantised, each DC read is off the quantised one by at most half a step of 2 to the power of the
-- shift (exact at shift 0)"
pub record BlockBack (shift : ℕ) (quantised read : List ℤ) : Type 0 where
  pub ac_equal : drop 1 read ≡ drop 1 quantised
  pub dc_near : nat_abs (dc_of read -ℤ dc_of quantised) ≤ 2 ^ shift / 2
  pub dc_exact : shift ≡ 0 → dc_of read ≡ dc_of quantised

abbrev pub PlaneBack : ℕ → List (List ℤ) → List BlockRead → Type 0
PlaneBack shift [] [] = Unit {0}
PlaneBack shift [] (b ∷ bs) = ⊥
PlaneBack shift (q ∷ qs) [] = ⊥
PlaneBack shift (q ∷ qs) (b ∷ bs) = BlockBack shift q b.coeffs × PlaneBack shift qs bs

abbrev pub PlanesBack : ℕ → List (List (List ℤ)) → List (List BlockRead) → Type 0
PlanesBack shift [] [] = Unit {0}
PlanesBack shift [] (b ∷ bs) = ⊥
PlanesBack shift (q ∷ qs) [] = ⊥
PlanesBack shift (q ∷ qs) (b ∷ bs) = PlaneBack shift q b × PlanesBack shift qs bs

-- one reading call: refused with a number from before question 8, its positions and rows as they were; or its rows made from the
-- coefficients that it read
pub data Answered (c : Call) (b : Buffers) (at : PerStream) : Decoded → Type 0 where
  refused : (n : ℕ) → number_before8 c b at ≡ suc n → (suc n ≡ no_code → ⊥)
      → Answered c b at (record { number = suc n; at = at; rows = rows_of (planes_lent c) })
  accepted : (blocks : List (List BlockRead)) (end : PerStream) → number_before8 c b at ≡ 0
      → read_planes (settings_of c).shift (planes_of c) b at ≡ planes_read blocks end
      → Answered c b at (record { number = 0; at = end; rows = rows_made (settings_of c) (planes_lent c) blocks })

abbrev pub AllAnswered : List Call → Buffers → PerStream → List Decoded → Type 0
AllAnswered [] b at [] = Unit {0}
AllAnswered [] b at (r ∷ rs) = ⊥
AllAnswered (c ∷ cs) b at [] = ⊥
AllAnswered (c ∷ cs) b at (r ∷ rs) = Answered c b at r × AllAnswered cs b r.at rs

-- the planes that a list of reading calls has read
abbrev pub planes_done : List Plane → List Call → Buffers → PerStream → DecodedAll → List Plane
planes_done planes calls b at k = take (length (blocks_read calls b at k.answers)) planes

-- planes were coded at the settings σ, and their streams lie in b from the positions on: "both positions are at the byte where the last
-- plane read ended when coded, or at the start if none was read"
pub record ReadingHalf (σ : Settings) (planes : List Plane) (calls : List Call) (b : Buffers) (at : PerStream) (k : DecodedAll) : Type 0 where
  pub all_answered : AllAnswered calls b at k.answers
  pub coefficients_back : PlanesBack σ.shift (map (coefficients σ) (planes_done planes calls b at k)) (blocks_read calls b at k.answers)
  pub positions : k.at ≡ together at (lengths_of (own_streams σ (planes_done planes calls b at k)))

-- "in the same buffers with any bytes, or none, instead of those behind its last positions"
abbrev pub read_from : CodedAll → Buffers → Buffers
read_from k appended =
    record {
      dc_bytes = take k.at.dc k.buffers.dc_bytes ++ appended.dc_bytes;
      ac_bytes = take k.at.ac k.buffers.ac_bytes ++ appended.ac_bytes;
    }

-- ---- both halves, of coding calls that do what Codes says and reading calls that do what Reads says
pub record Demand3 (Codes : Call → Buffers → PerStream → Coded → Type 0) (Reads : Call → Buffers → PerStream → Decoded → Type 0) : Type 0 where
  -- for every list of coding calls from any starts, refused ones included
  pub coding : (calls : List Call) (buffers : Buffers) (starts : PerStream) (k : CodedAll) → Coding Codes calls buffers starts k
      → CodingHalf calls buffers starts k
  -- "the accepted planes' own streams joined in order"
  pub own_streams_lem : (calls : List Call) (buffers : Buffers) (starts : PerStream) (σ : Settings) → OneSetting σ (fed buffers starts) empty_book calls
      → book calls buffers starts ≡ put_behind empty_book (own_streams σ (planes calls buffers starts))
  -- "for every list of reading calls for those planes in order, by the same settings, refused ones included, whatever bytes are appended"
  pub reading : (calls : List Call) (buffers : Buffers) (starts : PerStream) (k : CodedAll) → Coding Codes calls buffers starts k
      → (σ : Settings) → OneSetting σ (fed buffers starts) empty_book calls
      → (appended : Buffers) (readings : List Call) (r : DecodedAll) → Reading Reads readings (read_from k appended) starts r
      → Follows σ (planes calls buffers starts) readings (read_from k appended) starts r.answers
      → ReadingHalf σ (planes calls buffers starts) readings (read_from k appended) starts r
