-- What a coding call has been found to be where no question turned it away.
use mathlib.Core.Path.{◌≡◌}
use Prim.Native.Nat.{◌+◌, ◌≤◌}
use lib.Dec.{leb}
use borrow.Author.Tests.{leb-true}
use Rattle.ask.specs.Ask.{first_no}
use Rattle.ask.specs.Limits.{start_max, start_ok}
use Rattle.ask.proofs.FirstNo.{passed, left_yes, right_yes}
use Rattle.calls.specs.Arguments.{Call, settings_of, planes_of, PerStream}
use Rattle.calls.specs.Questions.{together, fits, starts_ok}
use Rattle.calls.specs.Legal.{Legal}
use Rattle.calls.proofs.Legal.{shared_legal}
use Rattle.slice.specs.Room.{room_for_all, coding_questions}

pub record CodingLegal (c : Call) (lengths at : PerStream) : Type 0 where
  pub legal : Legal c
  pub dc_room : at.dc + (room_for_all (settings_of c) (planes_of c)).dc ≤ lengths.dc
  pub ac_room : at.ac + (room_for_all (settings_of c) (planes_of c)).ac ≤ lengths.ac
  pub dc_start : at.dc ≤ start_max
  pub ac_start : at.ac ≤ start_max

pub coding_legal : (c : Call) (lengths at : PerStream) → first_no (coding_questions c lengths at) ≡ 0 → CodingLegal c lengths at
unfolding coding_questions
coding_legal c lengths at e =
    let room = together at (room_for_all (settings_of c) (planes_of c)) in
    let q5 = shared_legal c _ e in
    let q6 = passed (fits room lengths) 5 _ q5.1 in
    let q7 = passed (starts_ok at) 6 _ q6.1 in
    record {
      legal = q5.0;
      dc_room = leb-true room.dc lengths.dc (left_yes (leb room.dc lengths.dc) (leb room.ac lengths.ac) q6.0);
      ac_room = leb-true room.ac lengths.ac (right_yes (leb room.dc lengths.dc) (leb room.ac lengths.ac) q6.0);
      dc_start = leb-true at.dc start_max (left_yes (start_ok at.dc) (start_ok at.ac) q7.0);
      ac_start = leb-true at.ac start_max (right_yes (start_ok at.dc) (start_ok at.ac) q7.0);
    }
