-- The operations fit together, of the definitions that the contracts of `plan`, `check`, `write_layout`, `read_layout` and `list` cite: what planning
-- answers passes check, can be written, reads back as it was, asks for moves that can be interrupted, is certified where it is finished, can be asked for
-- what lost nodes cost, and planned again it stays.
-- Assumes nothing.
use Prim.Native.Nat.{ℕ, ◌+◌, ◌*◌, ◌^◌, ◌≤◌, ◌<◌}
use mathlib.Core.Path.{◌≡◌, refl, sym, ap, ap₂, ◌∙◌, subst}
use mathlib.Core.Bool.{true, false, false≢true}
use mathlib.Core.List.{List, [], ◌++◌}
use mathlib.Core.Logic.{⊎_elim}
use native.Mathlib.Nat.{mul-le-mul}
use native.Mathlib.Omega.{arith}
use lib.ListN.{length, take, drop, length-append}
use lib.Seq.{take_at}
use Rattle.cluster.specs.Terms.{most_bits, most_copies, buffer_rows, layout_cells, wide_row_cells, scratch_cells, Topology, topology, partitions, node_at, Layout, row, copies_in, ValidAt, IsFormer, sent, cells_of, row_of, rows_in, formed}
use Rattle.cluster.specs.TermsReading.{most_size, most_sent, most_verdict, most_improvements, Accepted, Fits32}
use Rattle.cluster.specs.declared.Cluster.{Cluster}
use Rattle.cluster.proofs.Accepting.{few_partitions, accepted}
use Rattle.cell_rows.specs.ModelRows.{FitsCells, HoldsRows}
use borrow.Author.Tests.{le-leb}
use Rattle.sums.specs.TermsSums.{tab}
use Rattle.sums.proofs.Tests.{one-if_le, every-all}
use Rattle.cells.proofs.Cells.{tab_get_or}
use Rattle.cell_rows.proofs.CellLayouts.{length-cells_of, rows_in-written, holds-cells_of, holds-append}
use Rattle.masks.proofs.Laws.{holds-formed}
use Rattle.layouts.specs.TermsCheck.{Checked, fault, check_of}
use Rattle.layouts.proofs.CheckMeaning.{valid_fits, valid_passed}
use Rattle.sizing.specs.ModelSizing.{size_of}
use Rattle.planning.specs.Demand.{Answer, Demand3, Rules}
use Rattle.planning.specs.ModelPlan.{plan_of}
use Rattle.planner.specs.TermsPlan.{Planned, unusable, plan_refusal, plan_in, answered, planned_of, assignment_after}
use Rattle.planner.proofs.Refusals.{Usable, usable, lent-former}
use Rattle.layout_head.specs.declared.Numbers.{Numbers}
use Rattle.layout_head.specs.RecordHead.{all_hold, in_range}
use Rattle.layout_rows.specs.RecordLayout.{HasLayout, layout_record, record_length}
use Rattle.layout_record.specs.RecordLayoutAnswer.{ReadLayout, Written, read_layout_of, assignment_read, write_answer, out_after}
use Rattle.layout_record.specs.RecordLayoutClaims.{ReadsLayout, WritesLayout}
use Rattle.layout_record.proofs.RecordLaws.{length_record}
use Rattle.layout_record.proofs.Exact.{writes-layout, reads_record}
use Rattle.loss.specs.TermsLoss.{most_lost, loss_of}
use Rattle.loss.specs.TermsLossAnswer.{worst_loss, lost_with, given_loss}
use Rattle.loss.proofs.LossOrder.{in_range_lem as loss-in-range}
use Rattle.loss.proofs.Owed.{told, given-answered}
use Rattle.moves.specs.TermsMoves.{moves_of, FitsSixteen, sends}
use Rattle.moves.proofs.WideRows.{length-wide_cells, cells-formed, wide_read}
use Rattle.moves.proofs.Promises.{sends-sent, eight_fit}
use Rattle.move_list.specs.TermsMoveList.{former_in, new_in}
use Rattle.move_list.proofs.MovesOrder.{pass_all}
use Rattle.certificate.specs.TermsCertify.{certified_of, Owed as CertifyOwed}
use Rattle.certificate.proofs.Owing.{pass_all as certify-pass, answer_owed}
use Rattle.whole.specs.TermsWhole.{plan_numbers, Stays, widened, PlanMoves}
use Rattle.whole.proofs.Alike.{sent_self, sent-none}
use Rattle.whole.proofs.Plans.{none-refused, usable_sized, not_refused, plan-answered, plan_laid, one_size, size_below, sent_few, valid_words, plan-rules, few_improvements}

-- The plan of a cluster c with a former layout and an allowance: its answer r and the cells that it leaves in the lent assignment.
module _ (c : Cluster) (former : List ℕ) (allowance : ℕ) (assignment scratch : List ℕ) where
  abbrev t : Topology
  t = topology c

  abbrev r : Planned
  r = planned_of c former allowance (length assignment) (length scratch)

  abbrev cells : List ℕ
  cells = assignment_after c former allowance assignment (length scratch)

  -- Planning refuses nothing, and capacities have 32 bits, as those of every cluster in code have.
  module _ (made : r.refusal ≡ 0) (low : Fits32 t) where
    none : plan_refusal c former (length assignment) (length scratch) ≡ 0
    none = not_refused c former (length assignment) (length scratch) allowance made

    call : Usable c former (length assignment) (length scratch)
    call = (usable_sized c former (length assignment) (length scratch) none).0

    sized : 1 ≤ size_of t
    sized = (usable_sized c former (length assignment) (length scratch) none).1

    acc : Accepted t
    acc = accepted c call.faultless

    abbrev F : Layout
    F = rows_in (partitions t) former

    fo : IsFormer t F
    fo = lent-former c former (length assignment) (length scratch) call

    demand : Demand3 t (plan_of t)
    demand = plan-rules t acc low sized

    rules : Rules t demand.beginning F (plan_of t F)
    rules = demand.rules F fo

    abbrev plan : Answer
    plan = plan_in c former allowance

    abbrev L : Layout
    L = plan.layout

    answer : r ≡ answered plan
    answer = plan-answered c former (length assignment) (length scratch) allowance none

    laid : cells ≡ cells_of L ++ drop layout_cells assignment
    laid = plan_laid c former allowance assignment (length scratch) none

    valid : ValidAt t L plan.size
    valid = rules.valid allowance

    fits : FitsCells L
    fits = valid_fits t L plan.size acc valid

    front : (rest : List ℕ) → take layout_cells (cells_of L ++ rest) ≡ cells_of L
    front rest = take_at (cells_of L) rest layout_cells (length-cells_of L)

    taken : take layout_cells cells ≡ cells_of L
    taken = ap (take layout_cells) laid ∙ front (drop layout_cells assignment)

    whole : (rest : List ℕ) → layout_cells ≤ length (cells_of L ++ rest)
    whole rest = omega (arith, length-append (cells_of L) rest, length-cells_of L)

    -- ---- check

    -- The layout passes check at its size, whatever cells stand after it.
    laid_checks : (rest : List ℕ) → check_of c (cells_of L ++ rest) r.size ≡ fault 0 0
    laid_checks rest =
        ap (λ (x : Planned). check_of c (cells_of L ++ rest) x.size) answer
        ∙ valid_passed c (cells_of L ++ rest) plan.size
        (record { whole = whole rest; accepted_cluster = call.faultless; layout = L; valid = valid; written = front rest })

    -- What planning answers, stopped or finished, passes check at the size that it answers.
    pub plan_checks : check_of c cells r.size ≡ fault 0 0
    plan_checks = ap (λ (l : List ℕ). check_of c l r.size) laid ∙ laid_checks (drop layout_cells assignment)

    -- ---- records

    -- Ids have 32 bits, as those of every cluster in code have.
    module _ (ids : (b : ℕ) → b < length t.nodes → (node_at t b).id < 2 ^ 32) where
      abbrev n : Numbers
      n = plan_numbers c r

      in_range_lem : in_range n ≡ true
      unfolding all_hold
      in_range_lem =
          let large = valid.positive in
          let below = size_below t acc low plan.size (rules.size allowance) in
          let few = sent_few t acc L F plan.size valid in
          let size : r.size ≡ plan.size = ap (λ (x : Planned). x.size) answer in
          let sends : r.sent ≤ most_sent = omega (arith, ap (λ (x : Planned). x.sent) answer, rules.measured allowance) in
          let improvements : r.improvements ≤ most_improvements =
          omega (arith, ap (λ (x : Planned). x.improvements) answer, few_improvements t demand.beginning F allowance rules) in
          simp (
            le-leb 0 n.bits (omega arith),
            le-leb n.bits most_bits acc.bits,
            le-leb 1 n.replication acc.replication.0,
            le-leb n.replication most_copies acc.replication.1,
            le-leb 1 n.size (omega arith),
            le-leb n.size most_size (omega arith),
            le-leb 0 n.sent (omega arith),
            le-leb n.sent most_sent sends,
            le-leb 0 n.verdict (omega arith),
            le-leb n.verdict most_verdict (one-if_le r.finished),
            le-leb 0 n.improvements (omega arith),
            le-leb n.improvements most_improvements improvements,
          )

      has-layout : HasLayout n L
      has-layout = record {
        partition_rows = valid.partition_rows;
        many = λ p l. (valid.rows p (omega (arith, valid.partition_rows))).many;
        ids = λ p l. (valid.rows p (omega (arith, valid.partition_rows))).ids;
        words = valid_words t acc ids L plan.size valid;
      }

      -- The output has room for the record.
      module _ (out : List ℕ) (room : 29 + partitions t * (5 + 4 * c.replication) ≤ length out) where
        long : length (layout_record n L) ≡ 29 + partitions t * (5 + 4 * c.replication)
        unfolding record_length
        long = length_record n L has-layout

        written : WritesLayout n cells out L
        written =
            writes-layout n cells out L
            (record {
              whole = omega (arith, ap length laid, whole (drop layout_cells assignment));
              ranges = in_range_lem;
              layout = has-layout;
              own_cells = taken;
              room = omega (arith, long);
            })

        -- A plan can always be written.
        pub plan-writes : write_answer n cells out ≡ record { refusal = 0; length = 29 + partitions t * (5 + 4 * c.replication) }
        plan-writes = written.answer ∙ ap (λ (k : ℕ). record { refusal = 0; length = k }) long

        -- The bytes written.
        abbrev bytes : List ℕ
        bytes = take (write_answer n cells out).length (out_after n cells out)

        bytes_are : bytes ≡ layout_record n L
        bytes_are =
            ap₂ take (ap (λ (w : Written). w.length) written.answer) written.after
            ∙ take_at (layout_record n L) (drop (length (layout_record n L)) out) (length (layout_record n L)) refl

        module _ (lent : List ℕ) (enough : layout_cells ≤ length lent) where
          read : ReadsLayout (layout_record n L) lent n L
          read = reads_record (layout_record n L) lent n L enough (record { bytes = refl; ranges = in_range_lem; layout = has-layout })

          held : assignment_read bytes lent ≡ cells_of L ++ drop layout_cells lent
          held = ap (λ (x : List ℕ). assignment_read x lent) bytes_are ∙ read.after

          -- What is written reads back: the numbers of the plan, and all 2,048 of its cells.
          pub plan_returns : (read_layout_of bytes lent ≡ record { refusal = 0; byte = 0; numbers = n })
              × (assignment_read bytes lent ≡ take layout_cells cells ++ drop layout_cells lent)
          plan_returns = (
            ap (λ (x : List ℕ). read_layout_of x lent) bytes_are ∙ read.answer,
            held ∙ ap (λ (x : List ℕ). x ++ drop layout_cells lent) (sym taken),
          )

          -- And passes check as it is read.
          pub returned_checks : check_of c (assignment_read bytes lent) (read_layout_of bytes lent).numbers.size ≡ fault 0 0
          returned_checks =
              ap₂ (check_of c) held (ap (λ (x : ReadLayout). x.numbers.size) plan_returns.0) ∙ laid_checks (drop layout_cells lent)

    -- ---- at size 1

    own-rows : rows_in (partitions t) cells ≡ L
    own-rows = ap₂ rows_in (sym valid.partition_rows) laid ∙ rows_in-written L (drop layout_cells assignment) fits

    at_one : ValidAt t L 1
    at_one = record {
      positive = omega arith;
      partition_rows = valid.partition_rows;
      rows = valid.rows;
      capacities = λ b l.
          let n = copies_in L (node_at t b).id in
          let larger : n * 1 ≤ n * plan.size = mul-le-mul (omega arith) valid.positive in
          omega (arith, valid.capacities b l, larger);
      ceilings = valid.ceilings;
    }

    checks_at-one : check_of c cells 1 ≡ fault 0 0
    checks_at-one =
        valid_passed c cells 1
        (record { whole = omega (arith, ap length laid, whole (drop layout_cells assignment)); accepted_cluster = call.faultless; layout = L; valid = at_one; written = taken })

    -- ---- losses

    -- What the loss of nodes costs the plan is always answered: at worst of so many as can be asked for, and of any given ones.
    pub plan-loss : ((number : ℕ) → number ≤ most_lost → number ≤ c.count → (worst_loss c cells number).refusal ≡ 0)
        × ((given : List ℕ) → given_loss c cells given ≡ lost_with 0 0 (loss_of L given))
    plan-loss = (
      λ number h l. ap (λ (x : Checked). x.refusal) (told c cells number ∙ (loss-in-range c cells number h l ∙ checks_at-one)),
      λ given. sym (given-answered c cells given (ap (λ (x : Checked). x.refusal) checks_at-one) (loss_of L given) (ap (λ (x : Layout). loss_of x given) (sym own-rows))),
    )

    -- ---- moves

    -- The rows of the former layout, each in sixteen cells, and the layout of the plan: the moves from the one to the other.
    module _ (rest : List ℕ) where
      abbrev wide : List ℕ
      wide = widened c former ++ rest

      few_rows : partitions t ≤ buffer_rows
      few_rows = few_partitions t.bits acc.bits

      few_ids : (p : ℕ) → p < partitions t → length (row F p) ≤ wide_row_cells
      few_ids p h = omega (arith, fo.few p h)

      former-rows : former_in c wide ≡ F
      former-rows =
          wide_read (row F) rest (partitions t) few_rows few_ids fo.ids
          ∙ (ap (tab (row F)) (sym fo.partition_rows) ∙ tab_get_or F [])

      -- The list is not refused, sends what planning said, and can be made afresh after every interruption.
      pub plan-moves : PlanMoves c wide cells r.sent
      plan-moves = record {
        accepted =
            pass_all c wide cells (omega (arith, length-append (widened c former) rest, length-wide_cells (row F)))
            (ap (λ (x : Checked). x.refusal) checks_at-one)
            (every-all (partitions t) (λ p. formed (row_of wide_row_cells wide p)) (λ p h. cells-formed (row F) rest p (omega (arith, few_rows)) (few_ids p h) (fo.ids p h)));
        sending =
            ap₂ (λ (x y : Layout). sends (moves_of t x y)) former-rows own-rows
            ∙ (sends-sent t F L few_rows fo.partition_rows fo.ids valid.partition_rows valid.rows
            ∙ (sym (rules.measured allowance) ∙ sym (ap (λ (x : Planned). x.sent) answer)));
        fits =
            subst (λ (x : Layout). FitsSixteen t x (new_in c cells)) (sym former-rows)
            (subst (λ (x : Layout). FitsSixteen t F x) (sym own-rows)
            (eight_fit t F L few_rows fo.partition_rows fo.ids valid.partition_rows valid.rows fo.few acc.replication.1));
      }

    -- ---- the certificate

    -- What certify owes of the plan, at the size that it answers.
    plan_owed : CertifyOwed t F L plan.size (certified_of c former cells plan.size)
    plan_owed =
        subst (λ (x : Layout). CertifyOwed t F x plan.size (certified_of c former cells plan.size)) own-rows
        (answer_owed c former cells plan.size
        (certify-pass c former cells plan.size call.former_long
        (ap (λ (x : Checked). x.refusal) (ap (λ (x : Planned). check_of c cells x.size) (sym answer) ∙ plan_checks)) call.rows-formed)
        low)

    -- A plan that is called finished is certified,
    pub plan_certified : r.finished ≡ true → (certified_of c former cells r.size).refusal ≡ 0
    plan_certified e =
        let f = rules.finished allowance (ap (λ (x : Planned). x.finished) (sym answer) ∙ e) in
        ap (λ (x : Planned). (certified_of c former cells x.size).refusal) answer
        ∙ plan_owed.exactly (rules.size allowance) (λ M v. omega (arith, f.nearest M v, rules.measured allowance))

    -- and one that is called stopped is refused: another layout of its size sends fewer.
    pub plan_uncertified : r.finished ≡ false → (certified_of c former cells r.size).refusal ≡ 20
    plan_uncertified e =
        ap (λ (x : Planned). (certified_of c former cells x.size).refusal) answer
        ∙ ⊎_elim (λ z. absurd (none-nearer (plan_owed.nearest z)))
        (⊎_elim (λ z. let w = plan_owed.larger z in absurd (omega (arith, w.3, (rules.size allowance).largest w.0 w.1 w.2))) (λ z. z)) plan_owed.only
      where
        none-nearer : ((M : Layout) → ValidAt t M plan.size → sent t L F ≤ sent t M F) → ⊥
        none-nearer h =
            false≢true
            (sym (ap (λ (x : Planned). x.finished) (sym answer) ∙ e)
            ∙ rules.exactly allowance (λ M v. omega (arith, rules.measured allowance, h M v)))

    -- ---- again

    -- The plan's own layout as the former one, and buffers long enough.
    module _ (lent spare : List ℕ) (roomy : layout_cells ≤ length lent) (ample : scratch_cells ≤ length spare) where
      abbrev again : ℕ → Planned
      again b = planned_of c cells b (length lent) (length spare)

      abbrev G : Layout
      G = rows_in (partitions t) cells

      holds : HoldsRows (partitions t) cells
      holds =
          subst (λ (l : List ℕ). HoldsRows (partitions t) l) (sym laid)
          (holds-append (partitions t) (cells_of L) (drop layout_cells assignment)
          (subst (λ (k : ℕ). HoldsRows k (cells_of L)) valid.partition_rows (holds-cells_of L fits)))

      usable_again : unusable c cells (length lent) (length spare) ≡ 0
      usable_again =
          sym (usable c cells (length lent) (length spare) holds.whole roomy ample call.faultless (holds-formed (partitions t) cells holds))

      none_again : plan_refusal c cells (length lent) (length spare) ≡ 0
      none_again = none-refused c cells (length lent) (length spare) usable_again sized

      own-former : IsFormer t G
      own-former = lent-former c cells (length lent) (length spare) (usable_sized c cells (length lent) (length spare) none_again).0

      rules_again : Rules t demand.beginning G (plan_of t G)
      rules_again = demand.rules G own-former

      answer_again : (b : ℕ) → again b ≡ answered (plan_of t G b)
      answer_again b = plan-answered c cells (length lent) (length spare) b none_again

      least : (again 2048).improvements ≡ (plan_of t G 2048).improvements
      least = ap (λ (x : Planned). x.improvements) (answer_again 2048)

      same_size : (b : ℕ) → (plan_of t G b).size ≡ plan.size
      same_size b = one_size t (plan_of t G b).size plan.size (rules_again.size b) (rules.size allowance)

      module _ (b : ℕ) (enough : (again 2048).improvements ≤ b) where
        ends : (plan_of t G b).finished ≡ true
        ends =
            let m = (plan_of t G 2048).improvements in
            let e = (rules_again.finished 2048 rules_again.enough).finishes in
            ap (λ (x : Answer). x.finished) ((rules_again.finished m e).larger b (omega (arith, least))) ∙ e

        nothing : (plan_of t G b).sent ≡ 0
        nothing =
            omega (
              arith,
              (rules_again.finished b ends).nearest L (subst (ValidAt t L) (sym (same_size b)) valid),
              ap (sent t L) own-rows,
              sent_self t L,
            )

        unmoved : (plan_of t G b).layout ≡ L
        unmoved =
            sent-none t (plan_of t G b).layout L (plan_of t G b).size plan.size (rules_again.valid b) valid
            (ap (sent t (plan_of t G b).layout) (sym own-rows) ∙ (sym (rules_again.measured b) ∙ nothing))

        stays : Stays r cells (again b) lent (assignment_after c cells b lent (length spare))
        stays =
            let e = answer_again b in
            record {
              refusal = ap (λ (x : Planned). x.refusal) e;
              size = ap (λ (x : Planned). x.size) e ∙ (same_size b ∙ sym (ap (λ (x : Planned). x.size) answer));
              sent = ap (λ (x : Planned). x.sent) e ∙ nothing;
              finished = ap (λ (x : Planned). x.finished) e ∙ ends;
              same =
                  plan_laid c cells b lent (length spare) none_again
                  ∙ ap (λ (l : List ℕ). l ++ drop layout_cells lent) (ap cells_of unmoved ∙ sym taken);
            }

      -- A plan that is planned again moves nothing, with every allowance that finishes; 2,048 is one.
      pub plan_again : ((again 2048).improvements ≤ 2048)
          × ((b : ℕ) → (again 2048).improvements ≤ b → Stays r cells (again b) lent (assignment_after c cells b lent (length spare)))
      plan_again = (omega (arith, least, few_improvements t demand.beginning G 2048 rules_again), stays)
