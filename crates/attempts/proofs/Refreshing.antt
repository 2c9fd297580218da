-- One turn of the loop over the arcs of a walk after which the nodes lead anew, over plain numbers and lists.
-- Assumes nothing.
use Prim.Native.Nat.{ℕ, ◌+◌, ◌≤◌, ◌<◌, min, max}
use mathlib.Core.Path.{◌≡◌, refl, sym, ap, ◌∙◌, subst}
use mathlib.Core.List.{List}
use mathlib.Core.Logic.{⊎_elim}
use native.Mathlib.Omega.{arith}
use lib.ListN.{length, get_or, length-set}
use Rattle.cluster.specs.Terms.{most_nodes}
use Rattle.sums.specs.ModelSums.{is}
use Rattle.sums.proofs.Sum.{lt_or_ge, is_eq}
use Rattle.sets.specs.ModelBits.{bit, union_of}
use Rattle.sets.proofs.Laws.{bit_le}
use Rattle.arcs.specs.ModelMoves.{joined}
use Rattle.evens.specs.ModelEvens.{even_to, Widened}
use Rattle.evens.proofs.Turns.{bit-joined}
use Rattle.attempts.specs.ModelDeciding.{Refreshed}

-- What holds below i and at i holds below i + 1.
below-one-more : (i j : ℕ) {A : Type 0} → j < i + 1 → (j < i → A) → (j ≡ i → A) → A
below-one-more i j l f g = ⊎_elim f (λ h. g (omega (arith, l, h))) (lt_or_ge j i)

module _ (rows former : List ℕ) (P : ℕ) (mates : List ℕ) (all z : ℕ) (even y q old : List ℕ) where
  -- Before the first arc all is as it was.
  pub refresh-none : Refreshed rows former P mates all z even y q 0 old old
  refresh-none =
      record {
        long = refl;
        more = λ u v g h. omega arith;
        changed = λ i u v l. absurd (omega (arith, l));
        store = λ i v l. absurd (omega (arith, l));
        only = λ v h o e s u g. o u g;
      }

  module _ (i : ℕ) (l n : List ℕ) (R : Refreshed rows former P mates all z even y q i old l) where
    -- An arc in a row.
    pub refresh-row : (p row was : ℕ) → p ≡ get_or q i 0 → p < P → row ≡ get_or rows p 0 → was ≡ get_or former p 0 → Widened mates all z even row was l n
        → Refreshed rows former P mates all z even y q (i + 1) old n
    refresh-row p row was ep in_p er ew W =
        record {
          long = W.long ∙ R.long;
          more = λ u v g h. omega (arith, R.more u v g h, W.bits u v g h);
          changed = λ j u v g r a b has to.
              below-one-more i j g (λ k. omega (arith, R.changed j u v k r a b has to, W.bits u v a b, bit_le (get_or n u 0) v))
              (λ e. widened (get_or q j 0) u v (ap (λ (t : ℕ). get_or q t 0) e) a b has to);
          store = λ j v g s a b has.
              below-one-more i j g (λ k. omega (arith, R.store j v k s a b has, W.bits (get_or y j 0) v a b, bit_le (get_or n (get_or y j 0) 0) v))
              (λ e. absurd (omega (arith, s, ap (λ (t : ℕ). get_or q t 0) e, ep, in_p)));
          only = λ v h o e s u g.
              let none = R.only v h o (λ j w k. e j w (omega (arith, k))) (λ j k. s j (omega (arith, k))) u g in
              omega (arith, none, W.bits u v g h, over (get_or q i 0) refl u v (e i u (omega arith) g));
        }
      where
        over : (t : ℕ) → t ≡ get_or q i 0 → (u v : ℕ) → bit (even_to mates all z even (get_or rows t 0) (get_or former t 0) u) v ≡ 0
            → bit (even_to mates all z even row was u) v ≡ 0
        over t et u v e = subst (λ (x : ℕ). bit (even_to mates all z even x was u) v ≡ 0) (sym same_row_lem) (subst (λ (x : ℕ). bit (even_to mates all z even (get_or rows t 0) x u) v ≡ 0) (sym same_was) e)
          where
            same_row_lem : row ≡ get_or rows t 0
            same_row_lem = er ∙ ap (λ (k : ℕ). get_or rows k 0) (ep ∙ sym et)

            same_was : was ≡ get_or former t 0
            same_was = ew ∙ ap (λ (k : ℕ). get_or former k 0) (ep ∙ sym et)

        widened : (t u v : ℕ) → t ≡ get_or q i 0 → u < most_nodes → v < most_nodes → bit (get_or rows t 0) u ≡ 1
            → bit (even_to mates all z even (get_or rows t 0) (get_or former t 0) u) v ≡ 1 → bit (get_or n u 0) v ≡ 1
        widened t u v et a b has to =
            let same_row_lem : row ≡ get_or rows t 0 = er ∙ ap (λ (k : ℕ). get_or rows k 0) (ep ∙ sym et) in
            let same_was : was ≡ get_or former t 0 = ew ∙ ap (λ (k : ℕ). get_or former k 0) (ep ∙ sym et) in
            let here : bit row u ≡ 1 = ap (λ (x : ℕ). bit x u) same_row_lem ∙ has in
            let there : bit (even_to mates all z even row was u) v ≡ 1 = (λ k. bit (even_to mates all z even (same_row_lem k) (same_was k) u) v) ∙ to in
            omega (arith, W.bits u v a b, here, there, bit_le (get_or n u 0) v, bit_le (get_or l u 0) v)

    -- A step over the store.
    pub refresh-store : (v s : ℕ) → v ≡ get_or y i 0 → P ≤ get_or q i 0 → v < most_nodes → s ≡ get_or even (most_nodes + v) 0 → length old ≡ most_nodes → n ≡ joined l v s
        → Refreshed rows former P mates all z even y q (i + 1) old n
    unfolding joined
    refresh-store v s ev in-q in-v es el en =
        let bits : (u w : ℕ) → w < most_nodes → bit (get_or n u 0) w ≡ max (bit (get_or l u 0) w) (min (is v u) (bit s w)) =
        λ u w h. ap (λ (x : List ℕ). bit (get_or x u 0) w) en ∙ bit-joined l v s u w (omega (arith, R.long, el, in-v)) h in
        record {
          long = ap length en ∙ (length-set l v (union_of (get_or l v 0) s) ∙ R.long);
          more = λ u w g h. omega (arith, R.more u w g h, bits u w h);
          changed = λ j u w g r a b has to.
              below-one-more i j g (λ k. omega (arith, R.changed j u w k r a b has to, bits u w b, bit_le (get_or n u 0) w))
              (λ e. absurd (omega (arith, in-q, ap (λ (t : ℕ). get_or q t 0) e, r)));
          store = λ j w g t a b has.
              below-one-more i j g (λ k. omega (arith, R.store j w k t a b has, bits (get_or y j 0) w b, bit_le (get_or n (get_or y j 0) 0) w))
              (λ e.
              let there : v ≡ get_or y j 0 = ev ∙ ap (λ (k : ℕ). get_or y k 0) (sym e) in
              let member : bit s w ≡ 1 = ap (λ (x : ℕ). bit x w) (es ∙ ap (λ (k : ℕ). get_or even (most_nodes + k) 0) there) ∙ has in
              omega (arith, member, is_eq {a = v} {b = get_or y j 0} there, bits (get_or y j 0) w b, bit_le (get_or n (get_or y j 0) 0) w, bit_le (get_or l (get_or y j 0) 0) w));
          only = λ w h o e t u g.
              let none = R.only w h o (λ j x k. e j x (omega (arith, k))) (λ j k. t j (omega (arith, k))) u g in
              let member : bit s w ≡ 0 = ap (λ (x : ℕ). bit x w) (es ∙ ap (λ (k : ℕ). get_or even (most_nodes + k) 0) ev) ∙ t i (omega arith) in
              omega (arith, none, member, bits u w h);
        }

    -- A step over the store to no node changes nothing.
    pub refresh-past : P ≤ get_or q i 0 → most_nodes ≤ get_or y i 0 → n ≡ l → Refreshed rows former P mates all z even y q (i + 1) old n
    refresh-past in-q past en =
        subst (λ (x : List ℕ). Refreshed rows former P mates all z even y q (i + 1) old x) (sym en)
        (record {
          long = R.long;
          more = R.more;
          changed = λ j u v g r a b has to.
              below-one-more i j g (λ k. R.changed j u v k r a b has to) (λ e. absurd (omega (arith, in-q, ap (λ (t : ℕ). get_or q t 0) e, r)));
          store = λ j v g s a b has.
              below-one-more i j g (λ k. R.store j v k s a b has) (λ e. absurd (omega (arith, past, ap (λ (t : ℕ). get_or y t 0) e, a)));
          only = λ v h o e s u g. R.only v h o (λ j w k. e j w (omega (arith, k))) (λ j k. s j (omega (arith, k))) u g;
        })
