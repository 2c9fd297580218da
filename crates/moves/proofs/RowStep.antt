-- One move of a row: the moves left are those of the row as it is then, and what is held stays whole.
-- Assumes nothing.
use Prim.Native.Nat.{ℕ, suc, ◌+◌, ◌≤◌, ◌<◌}
use mathlib.Core.Path.{◌≡◌, refl, sym, ap, ap₂, ◌∙◌, subst}
use mathlib.Core.Logic.{◌⊎◌, inl, inr, ⊎_elim}
use mathlib.Core.List.{List, [], ◌∷◌, ◌++◌, map, tail}
use mathlib.Core.Bool.{Bool, true, false, false≢true, cond, ◌||◌}
use native.Mathlib.Omega.{arith}
use lib.Dec.{ltb, eqb}
use lib.ListN.{length, get_or}
use borrow.Author.Tests.{eq-eqb, ne_eqb, lt-ltb, ltb-true}
use Rattle.sums.proofs.Sum.{eq_or_ne, lt_or_ge}
use Rattle.sums.proofs.Tests.{true_or_false}
use Rattle.cluster.specs.Terms.{mem, rising, rising_from}
use Rattle.cluster.proofs.Lists.{mem_head, mem-skip, mem_tail, mem_cases, rising_head, rising_tail, rising_none, rising_cons, rising_down, rising_above}
use Rattle.moves.specs.TermsMoves.{Move, send, discard, missing, row_moves, put_in, take_out, changed, AllIn}
use Rattle.moves.proofs.Missing.{missing_in, missing-out, missing-first, missing-none, none-missing, missing_cong}

-- ---- the first move

-- Equal lists have equal firsts and equal rests.
first-is : {a b : ℕ} {k l : List ℕ} → a ∷ k ≡ b ∷ l → a ≡ b
first-is e = ap (λ (x : List ℕ). get_or x 0 0) e

pub first_move : {a b : Move} {k l : List Move} → a ∷ k ≡ b ∷ l → a ≡ b
first_move {a} e = ap (λ (x : List Move). get_or x 0 a) e

pub rest-is : {A : Type 0} {a b : A} {k l : List A} → a ∷ k ≡ b ∷ l → k ≡ l
rest-is e = ap tail e

-- Where an id is missing, the first move is its send: no drop is made before all new ids are there.
sends-first : (p : ℕ) (o r : List ℕ) (b : ℕ) (bs : List ℕ) → missing r o ≡ b ∷ bs
    → row_moves p o r ≡ send p b ∷ (map (send p) bs ++ map (discard p) (missing o r))
unfolding row_moves
sends-first p o r b bs e = rw e

-- Where none is missing, all moves are drops.
drops_last : (p : ℕ) (o r : List ℕ) → missing r o ≡ [] → row_moves p o r ≡ map (discard p) (missing o r)
unfolding row_moves
drops_last p o r e = rw e

-- ---- rows with an id more or less

-- The id that was put in stands there.
mem-put : (i : ℕ) (l : List ℕ) → mem i (put_in i l) ≡ true
unfolding put_in
mem-put i [] = mem_head i i [] refl
mem-put i (x ∷ xs) = go (mem-put i xs) (ltb i x)
  where
    go : mem i (put_in i xs) ≡ true → (b : Bool) → mem i (cond b (i ∷ x ∷ xs) (x ∷ put_in i xs)) ≡ true
    go r true = mem_head i i (x ∷ xs) refl
    go r false = mem_tail i x (put_in i xs) r

-- The same first id changes nothing of what stands in the rests.
mem_same : (i x : ℕ) (k l : List ℕ) → mem i k ≡ mem i l → mem i (x ∷ k) ≡ mem i (x ∷ l)
unfolding mem
mem_same i x k l e = ap (λ (b : Bool). eqb i x || b) e

-- Of the other ids those stand there that did before an id was put in,
mem-put_other : (i j : ℕ) (l : List ℕ) → (j ≡ i → ⊥) → mem j (put_in i l) ≡ mem j l
unfolding put_in
mem-put_other i j [] n = mem-skip j i [] n
mem-put_other i j (x ∷ xs) n = go (mem-put_other i j xs n) (ltb i x)
  where
    go : mem j (put_in i xs) ≡ mem j xs → (b : Bool) → mem j (cond b (i ∷ x ∷ xs) (x ∷ put_in i xs)) ≡ mem j (x ∷ xs)
    go r true = mem-skip j i (x ∷ xs) n
    go r false = mem_same j x (put_in i xs) xs r

-- and those that did before one was taken out.
mem_take_other : (i j : ℕ) (l : List ℕ) → (j ≡ i → ⊥) → mem j (take_out i l) ≡ mem j l
unfolding take_out
mem_take_other i j [] n = refl
mem_take_other i j (x ∷ xs) n = ⊎_elim same (other (mem_take_other i j xs n)) (eq_or_ne i x)
  where
    same : i ≡ x → mem j (cond (eqb i x) xs (x ∷ take_out i xs)) ≡ mem j (x ∷ xs)
    same e = ap (λ (b : Bool). mem j (cond b xs (x ∷ take_out i xs))) (eq-eqb i x e) ∙ sym (mem-skip j x xs (λ q. n (q ∙ sym e)))

    other : mem j (take_out i xs) ≡ mem j xs → (i ≡ x → ⊥) → mem j (cond (eqb i x) xs (x ∷ take_out i xs)) ≡ mem j (x ∷ xs)
    other r e = ap (λ (b : Bool). mem j (cond b xs (x ∷ take_out i xs))) (ne_eqb i x e) ∙ mem_same j x (take_out i xs) xs r

-- Nothing new stands in a row from which an id was taken out.
take_within : (i : ℕ) (l : List ℕ) → AllIn (take_out i l) l
unfolding take_out
take_within i [] j m = m
take_within i (x ∷ xs) j m = go (take_within i xs j) (eqb i x) m
  where
    go : (mem j (take_out i xs) ≡ true → mem j xs ≡ true) → (b : Bool) → mem j (cond b xs (x ∷ take_out i xs)) ≡ true → mem j (x ∷ xs) ≡ true
    go r true h = mem_tail j x xs h
    go r false h = ⊎_elim (λ q. mem_head j x xs q) (λ y. mem_tail j x xs (r y)) (mem_cases j x (take_out i xs) h)

-- A rising row rises with an id put in that did not stand there.
rising-put : (k i : ℕ) (l : List ℕ) → k < i → rising_from k l ≡ true → mem i l ≡ false → rising_from k (put_in i l) ≡ true
unfolding put_in
rising-put k i [] h e f = rising_cons k i [] h (rising_none i)
rising-put k i (x ∷ xs) h e f = go (λ l m. rising-put x i xs l (rising_tail k x xs e) m) (ltb i x) refl
  where
    fresh : i ≡ x → ⊥
    fresh q = false≢true (sym f ∙ mem_head i x xs q)

    go : (x < i → mem i xs ≡ false → rising_from x (put_in i xs) ≡ true) → (b : Bool) → ltb i x ≡ b
        → rising_from k (cond b (i ∷ x ∷ xs) (x ∷ put_in i xs)) ≡ true
    go r true t = rising_cons k i (x ∷ xs) h (rising_cons i x xs (ltb-true i x t) (rising_tail k x xs e))
    go r false t =
        rising_cons k x (put_in i xs) (rising_head k x xs e) (r (past (lt_or_ge i x)) (sym (mem-skip i x xs fresh) ∙ f))
      where
        past : (i < x) ⊎ (x ≤ i) → x < i
        past (inl l) = absurd (false≢true (sym t ∙ lt-ltb i x l))
        past (inr g) = ⊎_elim (λ q. absurd (fresh q)) (λ n. omega (arith, n)) (eq_or_ne i x)

-- It rises with an id taken out.
rising_take : (k i : ℕ) (l : List ℕ) → rising_from k l ≡ true → rising_from k (take_out i l) ≡ true
unfolding take_out
rising_take k i [] e = e
rising_take k i (x ∷ xs) e = go (rising_take x i xs (rising_tail k x xs e)) (eqb i x)
  where
    go : rising_from x (take_out i xs) ≡ true → (b : Bool) → rising_from k (cond b xs (x ∷ take_out i xs)) ≡ true
    go r true = rising_down k x xs (omega (arith, rising_head k x xs e)) (rising_tail k x xs e)
    go r false = rising_cons k x (take_out i xs) (rising_head k x xs e) r

-- A row with an id put in is longer by one,
length-put : (i : ℕ) (l : List ℕ) → length (put_in i l) ≡ suc (length l)
unfolding put_in
length-put i [] = refl
length-put i (x ∷ xs) = go (length-put i xs) (ltb i x)
  where
    go : length (put_in i xs) ≡ suc (length xs) → (b : Bool) → length (cond b (i ∷ x ∷ xs) (x ∷ put_in i xs)) ≡ suc (suc (length xs))
    go r true = refl
    go r false = ap suc r

-- and one with an id taken out is no longer than before.
length-take : (i : ℕ) (l : List ℕ) → length (take_out i l) ≤ length l
unfolding take_out
length-take i [] = omega arith
length-take i (x ∷ xs) = go (length-take i xs) (eqb i x)
  where
    go : length (take_out i xs) ≤ length xs → (b : Bool) → length (cond b xs (x ∷ take_out i xs)) ≤ suc (length xs)
    go r true = omega arith
    go r false = omega arith

-- ---- what is missing after a move

-- The first missing id, put in, is missing no more; the others are.
missing-put : (k : ℕ) (r l m : List ℕ) (b : ℕ) (bs : List ℕ) → rising_from k r ≡ true → missing r l ≡ b ∷ bs
    → ((i : ℕ) → (i ≡ b → ⊥) → mem i m ≡ mem i l) → mem b m ≡ true → missing r m ≡ bs
unfolding missing
missing-put k [] l m b bs e h others own = absurd (omega (arith, ap length h))
missing-put k (x ∷ xs) l m b bs e h others own =
    ⊎_elim (there (λ q. missing-put x xs l m b bs (rising_tail k x xs e) q others own)) gone (true_or_false (mem x l))
  where
    there : (missing xs l ≡ b ∷ bs → missing xs m ≡ bs) → mem x l ≡ true → missing (x ∷ xs) m ≡ bs
    there r t =
        let q = sym (missing_in x xs l t) ∙ h in
        let w = missing-first xs l b bs q in
        missing_in x xs m (others x (λ z. false≢true (sym w.1 ∙ (ap (λ (n : ℕ). mem n l) (sym z) ∙ t))) ∙ t) ∙ r q

    gone : mem x l ≡ false → missing (x ∷ xs) m ≡ bs
    gone f =
        let q = sym (missing-out x xs l f) ∙ h in
        missing_in x xs m (ap (λ (n : ℕ). mem n m) (first-is q) ∙ own)
        ∙ (missing_cong xs m l (λ i y. others i (λ z. omega (arith, first-is q, z, rising_above x i xs (rising_tail k x xs e) y))) ∙ rest-is q)

-- The first id that is too many, taken out, is too many no more; the others are.
missing_take : (o r : List ℕ) (b : ℕ) (bs : List ℕ) → missing o r ≡ b ∷ bs → missing (take_out b o) r ≡ bs
unfolding missing take_out
missing_take [] r b bs h = absurd (omega (arith, ap length h))
missing_take (x ∷ xs) r b bs h = ⊎_elim (there (missing_take xs r b bs)) gone (true_or_false (mem x r))
  where
    there : (missing xs r ≡ b ∷ bs → missing (take_out b xs) r ≡ bs) → mem x r ≡ true → missing (cond (eqb b x) xs (x ∷ take_out b xs)) r ≡ bs
    there c t =
        let q = sym (missing_in x xs r t) ∙ h in
        let w = missing-first xs r b bs q in
        ap (λ (z : Bool). missing (cond z xs (x ∷ take_out b xs)) r)
        (ne_eqb b x (λ z. false≢true (sym w.1 ∙ (ap (λ (n : ℕ). mem n r) z ∙ t))))
        ∙ (missing_in x (take_out b xs) r t ∙ c q)

    gone : mem x r ≡ false → missing (cond (eqb b x) xs (x ∷ take_out b xs)) r ≡ bs
    gone f =
        let q = sym (missing-out x xs r f) ∙ h in
        ap (λ (z : Bool). missing (cond z xs (x ∷ take_out b xs)) r) (eq-eqb b x (sym (first-is q))) ∙ rest-is q

-- An id of the second row, put into the first, is not too many.
missing-kept : (b : ℕ) (o r : List ℕ) → mem b r ≡ true → missing (put_in b o) r ≡ missing o r
unfolding missing put_in
missing-kept b [] r t = missing_in b [] r t
missing-kept b (x ∷ xs) r t = go (missing-kept b xs r t) (ltb b x)
  where
    go : missing (put_in b xs) r ≡ missing xs r → (z : Bool) → missing (cond z (b ∷ x ∷ xs) (x ∷ put_in b xs)) r ≡ missing (x ∷ xs) r
    go c true = missing_in b (x ∷ xs) r t
    go c false = ap (λ (y : List ℕ). cond (mem x r) y (x ∷ y)) c

-- ---- one move of a row

-- What the first move m does to its row o on the way to r: the moves left are those of the row as it is then; it rises; it has all of a row s or all of
-- r where it had; it needs no more room; its ids are its own before and those of r; and a send's id is one that was missing.
pub record RowStep (p : ℕ) (o r : List ℕ) (m : Move) (ms : List Move) : Type 0 where
  pub place : m.partition ≡ p
  pub left : row_moves p (changed m o) r ≡ ms
  pub rises : rising (changed m o) ≡ true
  pub whole : (s : List ℕ) → AllIn s o ⊎ AllIn r o → AllIn s (changed m o) ⊎ AllIn r (changed m o)
  pub room : length (changed m o) + length (missing r (changed m o)) ≤ length o + length (missing r o)
  pub within : (i : ℕ) → mem i (changed m o) ≡ true → (mem i o ≡ true) ⊎ (mem i r ≡ true)
  pub wanted : m.kind ≡ 0 → (mem m.node r ≡ true) × (mem m.node o ≡ false)

module _ (p : ℕ) (o r : List ℕ) (ro : rising o ≡ true) (rr : rising r ≡ true) where
  -- A send.
  send-step : (b : ℕ) (bs : List ℕ) → missing r o ≡ b ∷ bs → RowStep p o r (send p b) (map (send p) bs ++ map (discard p) (missing o r))
  unfolding changed row_moves
  send-step b bs e =
      let w = missing-first r o b bs e in
      let left = missing-put 0 r o (put_in b o) b bs rr e (λ i n. mem-put_other b i o n) (mem-put b o) in
      let grows : AllIn o (put_in b o)
      = λ i m. ⊎_elim (λ q. ap (λ (n : ℕ). mem n (put_in b o)) q ∙ mem-put b o) (λ n. mem-put_other b i o n ∙ m) (eq_or_ne i b) in
      record {
        place = refl;
        left = ap₂ (λ (k l : List ℕ). map (send p) k ++ map (discard p) l) left (missing-kept b o r w.0);
        rises = rising-put 0 b o (rising_above 0 b r rr w.0) ro w.1;
        whole = λ s. ⊎_elim (λ h. inl (λ i m. grows i (h i m))) (λ h. inr (λ i m. grows i (h i m)));
        room = omega (arith, length-put b o, ap length left, ap length e);
        within = λ i m. ⊎_elim (λ q. inr (ap (λ (n : ℕ). mem n r) q ∙ w.0)) (λ n. inl (sym (mem-put_other b i o n) ∙ m)) (eq_or_ne i b);
        wanted = λ z. w;
      }

  -- A drop.
  drop_step : (b : ℕ) (bs : List ℕ) → AllIn r o → missing o r ≡ b ∷ bs → RowStep p o r (discard p b) (map (discard p) bs)
  unfolding changed row_moves
  drop_step b bs before e =
      let w = missing-first o r b bs e in
      let all : AllIn r (take_out b o)
      = λ i m. mem_take_other b i o (λ q. false≢true (sym w.1 ∙ (ap (λ (n : ℕ). mem n r) (sym q) ∙ m))) ∙ before i m in
      record {
        place = refl;
        left = ap₂ (λ (k l : List ℕ). map (send p) k ++ map (discard p) l) (missing-none r (take_out b o) all) (missing_take o r b bs e);
        rises = rising_take 0 b o ro;
        whole = λ s h. inr all;
        room = omega (arith, length-take b o, ap length (missing-none r (take_out b o) all));
        within = λ i m. inl (take_within b o i m);
        wanted = λ z. absurd (omega (arith, z));
      }

  -- The first move, whichever it is.
  pub row_step : (m : Move) (ms : List Move) → row_moves p o r ≡ m ∷ ms → RowStep p o r m ms
  row_step m ms e = go (missing r o) refl
    where
      turn : (a : Move) (k : List Move) → RowStep p o r a k → a ∷ k ≡ m ∷ ms → RowStep p o r m ms
      turn a k h q = subst (λ (x : List Move). RowStep p o r m x) (rest-is q) (subst (λ (x : Move). RowStep p o r x k) (first_move q) h)

      last : AllIn r o → (y : List ℕ) → missing o r ≡ y → map (discard p) y ≡ m ∷ ms → RowStep p o r m ms
      last all [] g q = absurd (omega (arith, ap length q))
      last all (b ∷ bs) g q = turn (discard p b) (map (discard p) bs) (drop_step b bs all g) q

      go : (x : List ℕ) → missing r o ≡ x → RowStep p o r m ms
      go (b ∷ bs) f = turn (send p b) (map (send p) bs ++ map (discard p) (missing o r)) (send-step b bs f) (sym (sends-first p o r b bs f) ∙ e)
      go [] f = last (none-missing r o f) (missing o r) refl (sym (drops_last p o r f) ∙ e)
