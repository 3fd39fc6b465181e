-- Lists of calls: coding calls with the book beside them, and reading calls. Document 01, 'Calls in a row'.
use Rattle.std.specs.Prelude.{◌≡◌, List, [], ◌∷◌, ◌++◌, map, ℕ, zero, suc, ◌+◌, length, take, drop}
use Rattle.ask.specs.Ask.{first_no}
use Rattle.calls.specs.Arguments.{Settings, Plane, Call, settings_of, planes_of, PerStream, Buffers, lengths_of}
use Rattle.calls.specs.ReadPlane.{BlockRead}
use Rattle.calls.specs.Questions.{reading_questions, together}
use Rattle.slice.specs.Calls.{Coded, own_streams, PlanesRead, bad_planes, planes_read, read_planes, Decoded}
use Rattle.slice.specs.Room.{coding_questions}

-- what a call hands back besides lent memory
pub record CallAnswer : Type 0 where
  pub number : ℕ
  pub at : PerStream

-- ---- lists as they run. What one call does is a relation between its arguments and its result: a definition, or a function's own contract

-- after a list of coding calls: what each answered, and the positions and bytes that the last one left
pub record CodedAll : Type 0 where
  pub answers : List CallAnswer
  pub at : PerStream
  pub buffers : Buffers

-- "Each call gets the bytes that the last one left and the positions it returned; nobody else writes them."
pub data Coding (Step : Call → Buffers → PerStream → Coded → Type 0) : List Call → Buffers → PerStream → CodedAll → Type 0 where
  coded_none : {b : Buffers} {at : PerStream} → Coding Step [] b at (record { answers = []; at = at; buffers = b })
  coded_then : {c : Call} {cs : List Call} {b : Buffers} {at : PerStream} {one : Coded} {rest : CodedAll}
      → Step c b at one → Coding Step cs one.buffers one.at rest
      → Coding Step (c ∷ cs) b at (record { answers = record { number = one.number; at = one.at } ∷ rest.answers; at = rest.at; buffers = rest.buffers })

-- after a list of reading calls: what each answered, with its rows at exit, and the last positions
pub record DecodedAll : Type 0 where
  pub answers : List Decoded
  pub at : PerStream

-- "Each call gets the positions that the last one returned; nobody writes the streams meanwhile."
pub data Reading (Step : Call → Buffers → PerStream → Decoded → Type 0) : List Call → Buffers → PerStream → DecodedAll → Type 0 where
  read_none : {b : Buffers} {at : PerStream} → Reading Step [] b at (record { answers = []; at = at })
  read_then : {c : Call} {cs : List Call} {b : Buffers} {at : PerStream} {one : Decoded} {rest : DecodedAll}
      → Step c b at one → Reading Step cs b one.at rest
      → Reading Step (c ∷ cs) b at (record { answers = one ∷ rest.answers; at = rest.at })

-- ---- the book: "two rows of bytes, empty at first"
pub record Book : Type 0 where
  pub dc_row : List ℕ
  pub ac_row : List ℕ

abbrev pub empty_book : Book
empty_book = record { dc_row = []; ac_row = [] }

-- "It is fed the two starts, the buffers' lengths and each call's other arguments, and no answer"
pub record Fed : Type 0 where
  pub starts : PerStream
  pub lengths : PerStream

-- "its positions are the starts plus the lengths of its two rows"
abbrev pub book_at : Fed → Book → PerStream
book_at f k = together f.starts (record { dc = length k.dc_row; ac = length k.ac_row })

-- "It puts the questions that concern the call, at these positions. The first "no" gives the number"
unfoldable pub book_number : Fed → Book → Call → ℕ
book_number f k c = first_no (coding_questions c f.lengths (book_at f k))

-- "each plane's own streams are put behind"
abbrev pub put_behind : Book → Buffers → Book
put_behind k own = record { dc_row = k.dc_row ++ own.dc_bytes; ac_row = k.ac_row ++ own.ac_bytes }

abbrev pub if_accepted : ℕ → List Plane → List Plane
if_accepted zero ps = ps
if_accepted (suc n) ps = []

abbrev pub AtThese : Settings → ℕ → Call → Type 0
AtThese σ zero c = settings_of c ≡ σ
AtThese σ (suc n) c = Unit {0}

-- "and nothing changes; without one, each plane's own streams are put behind"
abbrev pub book_by : ℕ → Call → Book → Book
book_by zero c k = put_behind k (own_streams (settings_of c) (planes_of c))
book_by (suc n) c k = k

abbrev pub book_next : Fed → Book → Call → Book
book_next f k c = book_by (book_number f k c) c k

-- the book after a list of calls, and what it says to each
unfoldable pub book_after : Fed → Book → List Call → Book
book_after f k [] = k
book_after f k (c ∷ cs) = book_after f (book_next f k c) cs

unfoldable pub book_answers : Fed → Book → List Call → List CallAnswer
book_answers f k [] = []
book_answers f k (c ∷ cs) = record { number = book_number f k c; at = book_at f (book_next f k c) } ∷ book_answers f (book_next f k c) cs

-- the planes of the accepted calls, in order
unfoldable pub planes_coded : Fed → Book → List Call → List Plane
planes_coded f k [] = []
planes_coded f k (c ∷ cs) = if_accepted (book_number f k c) (planes_of c) ++ planes_coded f (book_next f k c) cs

-- "the accepted ones at one depth, preset and DC shift"
unfoldable pub OneSetting : Settings → Fed → Book → List Call → Type 0
OneSetting σ f k [] = Unit {0}
OneSetting σ f k (c ∷ cs) = AtThese σ (book_number f k c) c × OneSetting σ f (book_next f k c) cs

-- ---- reading calls for the planes that were coded

-- the number that a reading call meets before question 8, 0 where it meets none
abbrev pub number_before8 : Call → Buffers → PerStream → ℕ
number_before8 c b at = first_no (reading_questions c (lengths_of b) at)

-- a plane's place and stride
pub record Shape : Type 0 where
  pub place : ℕ
  pub stride : ℕ

abbrev pub shape : Plane → Shape
shape p = record { place = p.place; stride = p.stride }

-- "A call has the same depth, preset and shift and the next unread planes' places and strides, or meets a "no" before question 8."
abbrev pub FollowsBy : ℕ → Settings → List Plane → Call → (List Plane → Type 0) → Type 0
FollowsBy zero σ unread c next =
    (settings_of c ≡ σ) × (map shape (planes_of c) ≡ map shape (take (length (planes_of c)) unread)) × next (drop (length (planes_of c)) unread)
FollowsBy (suc n) σ unread c next = next unread

abbrev pub blocks_in : ℕ → PlanesRead → List (List BlockRead)
blocks_in (suc n) r = []
blocks_in zero bad_planes = []
blocks_in zero (planes_read bs end) = bs

-- along the answers that the calls gave
unfoldable pub Follows : Settings → List Plane → List Call → Buffers → PerStream → List Decoded → Type 0
Follows σ unread [] b at answers = Unit {0}
Follows σ unread (c ∷ cs) b at [] = ⊥
Follows σ unread (c ∷ cs) b at (r ∷ rs) = FollowsBy (number_before8 c b at) σ unread c (λ rest. Follows σ rest cs b r.at rs)

-- what the accepted calls of a list read, plane by plane
unfoldable pub blocks_read : List Call → Buffers → PerStream → List Decoded → List (List BlockRead)
blocks_read [] b at answers = []
blocks_read (c ∷ cs) b at [] = []
blocks_read (c ∷ cs) b at (r ∷ rs) = blocks_in r.number (read_planes (settings_of c).shift (planes_of c) b at) ++ blocks_read cs b r.at rs
