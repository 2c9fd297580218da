-- `changes::applied` meets its contract.
-- Assumes nothing.
use Prim.Native.Nat.{ℕ}
use mathlib.Core.Path.{◌≡◌, sym, ap, ap₂, ◌∙◌}
use Rattle.std.proofs.lemmas.Result.{err_from_is_err_and}
use Rattle.cluster.specs.Terms.{topology}
use Rattle.cluster.specs.TermsRefusal.{number_of}
use Rattle.cluster.specs.declared.Cluster.{Cluster}
use Rattle.cluster.proofs.Accepting.{few_nodes}
use Rattle.change_fields.specs.RecordChange.{change_field, reverse_bytes}
use Rattle.change_fields.specs.declared.Change.{Change}
use Rattle.change_fields.specs.declared.Reverse.{Reverse}
use Rattle.making.specs.TermsMaking.{change_fault}
use Rattle.changes.specs.TermsChanges.{change_refused, change_made}
use Rattle.changes.proofs.Cases.{number-some, read-refused, read_made}
use Rattle.changes.proofs.applied.Goals as goal

pub fault_of-requires : goal.fault_of-requires
fault_of-requires c = few_nodes c.args.c c.requires

pub returns-in_err-fault_of : goal.returns-in_err-fault_of
returns-in_err-fault_of c at =
    let a = c.args in
    let p = err_from_is_err_and c.from_residual.result c.from_residual.ensures.1 in
    let e : number_of c.in_err-fault_of.field-0.0 ≡ change_fault (topology a.c).nodes a.x = c.in_err-fault_of.ensures in
    rw (p.1, p.2) (ap (λ (n : ℕ). change_refused a.c n at) e ∙ read-refused a.c a.x at a.next (λ z. number-some _ (e ∙ z)))

pub reverse_of-requires : goal.reverse_of-requires
reverse_of-requires c = few_nodes c.args.c c.requires

pub returns : goal.returns
unfolding change_made
returns c at =
    let a = c.args in
    ap₂ (λ (d : Cluster) (v : Reverse). record { cluster = d; answer = record { refusal = 0; byte = a.next; reverse = v } }) c.with_change.ensures
    (c.to_bytes-reverse.ensures ∙ ap (λ (y : Change). reverse_bytes (change_field y)) c.reverse_of.ensures)
    ∙ read_made a.c a.x at a.next (sym c.in_ok-fault_of.ensures)
