-- `certificate::certify` meets its contract. Assumes nothing.
use native.Mathlib.Omega.{arith}
use mathlib.Core.Path.{◌≡◌, sym, ap, ◌∙◌}
use Rattle.cluster.specs.Terms.{topology}
use Rattle.std.proofs.lemmas.Result.{err_from_is_err_and}
use Rattle.cluster.specs.TermsRefusal.{number_of}
use Rattle.layouts.specs.TermsCheck.{Checked, fault}
use Rattle.layouts.proofs.FaultScan.{number-some}
use Rattle.sizing.specs.ModelSizing.{size_of}
use Rattle.sizing.proofs.Reading.{size_in_lem}
use Rattle.certificate.specs.TermsCertify.{certify_fault, certified_as}
use Rattle.certificate.proofs.Owing.{refused_ends, faultless, larger_ends, price_ends, price_asks}
use Rattle.certificate.proofs.certify.Goals as goal

pub returns-in_err-fault : goal.returns-in_err-fault
returns-in_err-fault c =
    let a = c.args in
    let p = err_from_is_err_and c.from_residual.result c.from_residual.ensures.1 in
    let r = c.in_err-fault.field-0.0 in
    rw (p.1, p.2)
    (refused_ends a.c a.former.now a.assignment.now a.size (fault (number_of r.refusal) r.place) c.in_err-fault.ensures (number-some r.refusal))

pub returns-then-size : goal.returns-then-size
returns-then-size c =
    -- Past the first test there is no fault,
    let sound : (certify_fault c.args.c c.args.former.now c.args.assignment.now c.args.size).refusal ≡ 0 = sym (ap (λ (k : Checked). k.refusal) c.in_ok-fault.ensures) in
    -- and the size that is compared with is the cluster's.
    let compared : c.size.result ≡ size_of (topology c.args.c) = (let a = c.args in
    c.size.ensures ∙ size_in_lem a.c (faultless a.c a.former.now a.assignment.now a.size sound)) in
    let a = c.args in
    rw c.into.ensures
    (larger_ends a.c a.former.now a.assignment.now a.size sound c.caps-caps.ensures.1 (omega (arith, compared)))

pub price-requires : goal.price-requires
price-requires c =
    let sound : (certify_fault c.args.c c.args.former.now c.args.assignment.now c.args.size).refusal ≡ 0 = sym (ap (λ (k : Checked). k.refusal) c.in_ok-fault.ensures) in
    let compared : c.size.result ≡ size_of (topology c.args.c) = (let a = c.args in
    c.size.ensures ∙ size_in_lem a.c (faultless a.c a.former.now a.assignment.now a.size sound)) in
    let a = c.args in
    price_asks a.c a.former.now a.assignment.now a.size sound c.caps-caps.ensures.1 (omega (arith, compared)) c.caps-caps.result c.caps-caps.ensures.0

pub returns : goal.returns
returns c =
    let sound : (certify_fault c.args.c c.args.former.now c.args.assignment.now c.args.size).refusal ≡ 0 = sym (ap (λ (k : Checked). k.refusal) c.in_ok-fault.ensures) in
    let compared : c.size.result ≡ size_of (topology c.args.c) = (let a = c.args in
    c.size.ensures ∙ size_in_lem a.c (faultless a.c a.former.now a.assignment.now a.size sound)) in
    let a = c.args in
    price_ends a.c a.former.now a.assignment.now a.size sound c.caps-caps.ensures.1 (omega (arith, compared)) (certified_as c.price.result) c.price.ensures
