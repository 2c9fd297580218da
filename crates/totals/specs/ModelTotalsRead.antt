-- What the walk over the totals says. Nobody has to believe this file: the contracts of reading and of the question do not cite it.
-- Assumes nothing.
use Rattle.std.specs.Prelude.{ℕ, ◌-◌, ◌/◌, ◌%◌, ◌≤◌, ◌≡◌, List, Result, Ok, Err}
use Rattle.totals.specs.RecordTotalsFaults.{TotalsRead, totals_end, totals_refused, total_bytes, totals_at}
use Rattle.cluster.specs.TermsRefusal.{number_of}
use Rattle.fields.specs.declared.Refused.{Refused}

-- What each case of the code's answer says: the totals stand one after another up to the byte that is answered.
abbrev pub totals_say : List ℕ → ℕ → Result ℕ Refused → TotalsRead
totals_say s from (Ok end) = totals_end (totals_at s from ((end - from) / total_bytes)) end
totals_say s from (Err r) = totals_refused (number_of r.refusal) r.at

-- What is known of where they end, in a record of n bytes.
pub record Ends (n from end : ℕ) : Type 0 where
  pub after : from ≤ end
  pub even : (end - from) % total_bytes ≡ 0
  pub inside : from ≤ n → end ≤ n

abbrev pub EndsIn : ℕ → ℕ → Result ℕ Refused → Type 0
EndsIn n from (Ok end) = Ends n from end
EndsIn n from (Err r) = Unit
