-- What a C function tells of a refusal: reading's with its byte, the operation's with its place.
-- Assumes nothing.
use Rattle.std.specs.Prelude.{Result, Ok, Err}
use Rattle.cluster.specs.TermsRefusal.{number_of}
use Rattle.fields.specs.declared.Refused.{Refused}
use Rattle.layouts.specs.declared.check.Fault.{Fault}
use Rattle.answers.specs.declared.stopped.Stopped.{Stopped}
use Rattle.answers.specs.declared.stopped.Told.{Told}

-- Reading's refusal has its byte, and place 0.
abbrev pub by_reading : Refused → Stopped
by_reading r = record { refusal = r.refusal; byte = r.at; place = 0 }

-- The operation's refusal has its place, and byte 0.
abbrev pub by_operation : Fault → Stopped
by_operation f = record { refusal = f.refusal; byte = 0; place = f.place }

-- "Each answers its refusal, 0 for none": an answer's numbers; a byte or a place is 0 where nothing is refused.
abbrev pub told_of : {A : Type 0} → Result A Stopped → Told
told_of (Ok _) = record { refusal = 0; byte = 0; place = 0 }
told_of (Err s) = record { refusal = number_of s.refusal; byte = s.byte; place = s.place }

-- The answer without the byte of a reading.
abbrev pub fault_in : {A : Type 0} → Result A Stopped → Result A Fault
fault_in (Ok v) = Ok v
fault_in (Err s) = Err (record { refusal = s.refusal; place = s.place })
