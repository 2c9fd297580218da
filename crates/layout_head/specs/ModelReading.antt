-- What the answers of the reading's parts mean. Nobody has to believe this file: the contracts of `read_layout` and `write_layout` do not cite it.
-- Assumes nothing.
use Rattle.std.specs.Prelude.{ℕ, Result, Ok, Err}
use Rattle.cluster.specs.TermsRefusal.{number_of}
use Rattle.fields.specs.declared.Refused.{Refused}
use Rattle.layout_head.specs.declared.Numbers.{Numbers}
use Rattle.layout_head.specs.RecordHeadFaults.{HeadRead, head_ends, head_refused}

-- What each case of the code's answer says of the head.
abbrev pub head_says : Result (Numbers × ℕ) Refused → HeadRead
head_says (Ok read) = head_ends read.0 read.1
head_says (Err r) = head_refused (number_of r.refusal) r.at
