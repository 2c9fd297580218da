-- What code that makes the rows of the answer may rest on: rows with the bits that are answered stand for its layout, are good, and share as much
-- with the former rows as those that the run reached.
-- Assumes nothing.
use Prim.Native.Nat.{ℕ, ◌^◌, ◌≤◌, ◌<◌}
use mathlib.Core.Path.{◌≡◌, refl, sym, ap, ◌∙◌}
use mathlib.Core.Bool.{Bool, true, false}
use mathlib.Core.List.{List}
use lib.ListN.{length, get_or}
use Rattle.sets.specs.ModelBits.{bits_at}
use Rattle.exchange.specs.ModelRow.{Within}
use Rattle.exchange.proofs.Agreeing.{SameLayout, same_layout_sym, weigh_cong, within_cong}
use Rattle.cluster.specs.Terms.{Topology, partitions, Layout}
use Rattle.cluster.specs.TermsReading.{Accepted}
use Rattle.incidence.specs.ModelIncidence.{zone_index, cap_at}
use Rattle.incidence.proofs.TieOrder.{same_layout_lem}
use Rattle.sizing.specs.ModelSizing.{nodes_of, size_of}
use Rattle.agreement.specs.ModelAgreement.{agreement_in}
use Rattle.improve.specs.ModelImprove.{ran_in}
use Rattle.improve.proofs.Ground.{agreement-weighs}
use Rattle.planning.specs.ModelPlan.{former_masks, layout_rows, ran_from, first_bits, answer_bits, answer_layout, plan_from}
use Rattle.planning.proofs.Grounds.{GoodRows, ground}
use Rattle.planning.proofs.Firsts.{answer-near}

-- Of a finished run the first bits are answered,
pub finished_bits : (t : Topology) (s : ℕ) (before : List ℕ) (f : Bool) (rows : List ℕ) → f ≡ true → answer_bits t s before f rows ≡ first_bits t s before rows
unfolding answer_bits
finished_bits t s before f rows e = ap (λ (b : Bool). answer_bits t s before b rows) e

-- of a stopped one the bits of its rows.
pub stopped_bits : (t : Topology) (s : ℕ) (before : List ℕ) (f : Bool) (rows : List ℕ) → f ≡ false → answer_bits t s before f rows ≡ bits_at rows
unfolding answer_bits
stopped_bits t s before f rows e = ap (λ (b : Bool). answer_bits t s before b rows) e

-- Rows with the bits that a run answers stand for its layout.
pub rows-first : (t : Topology) (F : Layout) (start : List ℕ) (a : ℕ) (new : List ℕ)
    → (let r = ran_from t (size_of t) (former_masks t F) start a in
    SameLayout (partitions t) (nodes_of t) (bits_at new) (answer_bits t (size_of t) (former_masks t F) r.finished r.state.rows))
    → layout_rows t new ≡ (plan_from t F start a).layout
unfolding layout_rows plan_from answer_layout ran_from ran_in
rows-first t F start a new h = same_layout_lem t (bits_at new) _ h

module _ (t : Topology) (acc : Accepted t) (F : Layout) (rows : List ℕ) (g : GoodRows t rows) (f : Bool) (new : List ℕ)
    (same : SameLayout (partitions t) (nodes_of t) (bits_at new) (answer_bits t (size_of t) (former_masks t F) f rows))
  where
    abbrev P : ℕ
    P = partitions t

    abbrev N : ℕ
    N = nodes_of t

    abbrev fm : List ℕ
    fm = former_masks t F

    -- Such rows are within the caps,
    pub rows-within : Within P N t.replication t.redundancy (zone_index t) (cap_at t (size_of t)) (bits_at new)
    rows-within =
        within_cong P N (answer_bits t (size_of t) fm f rows) (bits_at new) (same_layout_sym same) t.replication t.redundancy (zone_index t)
        (cap_at t (size_of t)) (answer-near t acc F rows g f).within

    module _ (long : P ≤ length new) (small : (p : ℕ) → p < P → get_or new p 0 < 2 ^ N) where
      -- and good rows, where there are enough of them and they name nodes alone;
      pub rows_good : GoodRows t new
      rows_good = record { long = long; small = small; within = rows-within }

      -- they share as many copies with the former rows as those reached.
      pub rows_share : agreement_in new fm P ≡ agreement_in rows fm P
      rows_share =
          agreement-weighs (ground t acc F) new rows_good
          ∙ (weigh_cong P N (bits_at fm) (bits_at fm) (bits_at new) (answer_bits t (size_of t) fm f rows) (λ p l b k. refl) same
          ∙ ((answer-near t acc F rows g f).weighs ∙ sym (agreement-weighs (ground t acc F) rows g)))
