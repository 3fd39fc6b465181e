-- What the code's type says, in the definitions' terms.
use Rattle.parser.specs.head.Header.{FrameRead}
use Rattle.parser.specs.declared.head.Header.{Header}

abbrev pub header_says : Header → FrameRead
header_says h =
    record { interlaced = h.interlaced; quality = h.quality; dc_shift = h.dc_shift; header_len = h.header_len; ac_there = h.ac }
