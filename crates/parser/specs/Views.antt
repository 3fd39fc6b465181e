-- What the code's types say, in the definitions' terms. One function for each type.
use Rattle.std.specs.Prelude.{Result}
use Rattle.ask.specs.Ask.{Answer}
use Rattle.ask.specs.Refusals.{answer}
use Rattle.ask.specs.declared.refusal.Refusal.{Refusal}
use Rattle.parser.specs.head.Header.{FrameRead}
use Rattle.parser.specs.head.Views.{header_says}
use Rattle.parser.specs.Frame as frame
use Rattle.parser.specs.declared.head.Header.{Header}
use Rattle.parser.specs.declared.View.{View}

abbrev pub frame_says : Result Header Refusal → Answer FrameRead
frame_says r = answer header_says r

abbrev pub view_says : Result View Refusal → Answer frame.View
view_says r = answer (λ v. record { offset = v.offset; size = v.len }) r
