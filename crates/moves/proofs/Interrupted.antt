-- After any number of moves: the moves left are those from what is held then, each row is whole, and at the end the new rows are held.
-- Assumes nothing.
use Prim.Native.Nat.{ℕ, zero, suc, ◌+◌, ◌≤◌, ◌<◌}
use mathlib.Core.Path.{◌≡◌, refl, sym, ap, ap₂, ◌∙◌, subst}
use mathlib.Core.Logic.{◌⊎◌, inl, inr, ⊎_elim}
use mathlib.Core.List.{List, [], ◌∷◌, ◌++◌, map, append-nil, append_assoc}
use mathlib.Core.Bool.{Bool, true, false, cond}
use native.Mathlib.Omega.{arith}
use lib.Dec.{eqb}
use lib.ListN.{length, take, drop}
use borrow.Author.Tests.{eq-eqb, ne_eqb}
use Rattle.sums.proofs.Sum.{eq_or_ne}
use Rattle.cluster.specs.Terms.{mem, rising}
use Rattle.cluster.proofs.Lists.{rising_same, same_test}
use Rattle.moves.specs.TermsMoves.{Move, send, discard, missing, row_moves, moves_from, changed, made, after, AllIn}
use Rattle.moves.proofs.Missing.{none-missing}
use Rattle.moves.proofs.RowStep.{RowStep, row_step, first_move, rest-is}

-- ---- one move of the whole

-- A move changes no row but its own,
made_other : (m : Move) (H : ℕ → List ℕ) (p : ℕ) → (p ≡ m.partition → ⊥) → made m H p ≡ H p
unfolding made
made_other m H p n = ap (λ (b : Bool). cond b (changed m (H p)) (H p)) (ne_eqb p m.partition n)

-- and its own as it should.
made-own : (m : Move) (H : ℕ → List ℕ) (p : ℕ) → p ≡ m.partition → made m H p ≡ changed m (H p)
unfolding made
made-own m H p e = ap (λ (b : Bool). cond b (changed m (H p)) (H p)) (eq-eqb p m.partition e)

-- One partition more at the end.
moves-behind : (H L : ℕ → List ℕ) (p n : ℕ) → moves_from H L p (suc n) ≡ moves_from H L p n ++ row_moves (p + n) (H (p + n)) (L (p + n))
unfolding moves_from
moves-behind H L p zero =
    let z : p ≡ p + 0 = omega arith in
    append-nil (row_moves p (H p) (L p)) ∙ ap (λ (q : ℕ). row_moves q (H q) (L q)) z
moves-behind H L p (suc n) =
    let z : suc p + n ≡ p + suc n = omega arith in
    ap (λ (x : List Move). row_moves p (H p) (L p) ++ x) (moves-behind H L (suc p) n)
    ∙ (sym (append_assoc (row_moves p (H p) (L p)) (moves_from H L (suc p) n) (row_moves (suc p + n) (H (suc p + n)) (L (suc p + n))))
    ∙ ap (λ (q : ℕ). (row_moves p (H p) (L p) ++ moves_from H L (suc p) n) ++ row_moves q (H q) (L q)) z)

pub moves_next : (H L : ℕ → List ℕ) (n : ℕ) → moves_from H L 0 (suc n) ≡ moves_from H L 0 n ++ row_moves n (H n) (L n)
moves_next H L n = let z : 0 + n ≡ n = omega arith in moves-behind H L 0 n ∙ ap (λ (q : ℕ). moves_from H L 0 n ++ row_moves q (H q) (L q)) z

-- Only the n rows from p on matter.
pub moves_cong : (H K L : ℕ → List ℕ) (p n : ℕ) → ((q : ℕ) → p ≤ q → q < p + n → H q ≡ K q) → moves_from H L p n ≡ moves_from K L p n
unfolding moves_from
moves_cong H K L p zero h = refl
moves_cong H K L p (suc n) h =
    ap₂ (λ (x : List ℕ) (y : List Move). row_moves p x (L p) ++ y) (h p (omega arith) (omega arith))
    (moves_cong H K L (suc p) n (λ q l u. h q (omega arith) (omega arith)))

-- What holds of K, held on the way from H to L: rows rise; a row that had all of a row s or all its new ids has; it needs no more room; and its ids are
-- those of H and those of L.
pub record Between (H L K : ℕ → List ℕ) : Type 0 where
  pub rises : (q : ℕ) → rising (K q) ≡ true
  pub whole : (q : ℕ) (s : List ℕ) → AllIn s (H q) ⊎ AllIn (L q) (H q) → AllIn s (K q) ⊎ AllIn (L q) (K q)
  pub room : (q : ℕ) → length (K q) + length (missing (L q) (K q)) ≤ length (H q) + length (missing (L q) (H q))
  pub within : (q i : ℕ) → mem i (K q) ≡ true → (mem i (H q) ≡ true) ⊎ (mem i (L q) ≡ true)

-- What the first move m does: the moves left are those from what is held then, and a send's id is one that was missing.
pub record Step (H L : ℕ → List ℕ) (p n : ℕ) (m : Move) (ms : List Move) : Type 0 where
  pub from : p ≤ m.partition
  pub left : moves_from (made m H) L p n ≡ ms
  pub between : Between H L (made m H)
  pub wanted : m.kind ≡ 0 → (mem m.node (L m.partition) ≡ true) × (mem m.node (H m.partition) ≡ false)

module _ (H L : ℕ → List ℕ) (rh : (p : ℕ) → rising (H p) ≡ true) (rl : (p : ℕ) → rising (L p) ≡ true) where
  -- A fact of the row that changed and of the others is a fact of all.
  each : (m : Move) (p : ℕ) → m.partition ≡ p → (B : ℕ → List ℕ → Type 0) → B p (changed m (H p)) → ((q : ℕ) → B q (H q))
      → (q : ℕ) → B q (made m H q)
  each m p e B own others q =
      ⊎_elim (λ z. subst (B q) (sym (made-own m H q z)) (subst (λ (x : ℕ). B x (changed m (H x))) (sym (z ∙ e)) own))
      (λ n. subst (B q) (sym (made_other m H q n)) (others q)) (eq_or_ne q m.partition)

  -- The first move, where the first row has it.
  here : (m : Move) (ms : List Move) (p n : ℕ) → RowStep p (H p) (L p) m ms → Step H L p (suc n) m (ms ++ moves_from H L (suc p) n)
  unfolding moves_from
  here m ms p n s =
      let e = s.place in
      record {
        from = omega (arith, e);
        left = ap₂ (λ (x y : List Move). x ++ y) (ap (λ (x : List ℕ). row_moves p x (L p)) (made-own m H p (sym e)) ∙ s.left)
            (moves_cong (made m H) H L (suc p) n (λ q l u. made_other m H q (λ z. omega (arith, z, e))));
        between = record {
          rises = each m p e (λ q x. rising x ≡ true) s.rises rh;
          whole = each m p e (λ q x. (s : List ℕ) → AllIn s (H q) ⊎ AllIn (L q) (H q) → AllIn s x ⊎ AllIn (L q) x) s.whole (λ q s h. h);
          room = each m p e (λ q x. length x + length (missing (L q) x) ≤ length (H q) + length (missing (L q) (H q))) s.room (λ q. omega arith);
          within = each m p e (λ q x. (i : ℕ) → mem i x ≡ true → (mem i (H q) ≡ true) ⊎ (mem i (L q) ≡ true)) s.within (λ q i h. inl h);
        };
        wanted = subst (λ (x : ℕ). m.kind ≡ 0 → (mem m.node (L x) ≡ true) × (mem m.node (H x) ≡ false)) (sym e) s.wanted;
      }

  -- The first move belongs to the first row that has one; the rows before it have none and stay without.
  pub one-step : (p n : ℕ) (m : Move) (ms : List Move) → moves_from H L p n ≡ m ∷ ms → Step H L p n m ms
  unfolding moves_from
  one-step p zero m ms e = absurd (omega (arith, ap length e))
  one-step p (suc n) m ms e = go (one-step (suc p) n m ms) (row_moves p (H p) (L p)) refl
    where
      go : (moves_from H L (suc p) n ≡ m ∷ ms → Step H L (suc p) n m ms) → (x : List Move) → row_moves p (H p) (L p) ≡ x → Step H L p (suc n) m ms
      go r [] q =
          let s = r (sym (ap (λ (x : List Move). x ++ moves_from H L (suc p) n) q) ∙ e) in
          record {
            from = omega (arith, s.from);
            left = ap₂ (λ (x : List ℕ) (y : List Move). row_moves p x (L p) ++ y) (made_other m H p (λ z. omega (arith, z, s.from))) s.left
                ∙ ap (λ (x : List Move). x ++ ms) q;
            between = s.between;
            wanted = s.wanted;
          }
      go r (a ∷ k) q =
          let t = sym (ap (λ (x : List Move). x ++ moves_from H L (suc p) n) q) ∙ e in
          let s = subst (λ (x : Move). RowStep p (H p) (L p) x k) (first_move t) (row_step p (H p) (L p) (rh p) (rl p) a k q) in
          subst (λ (x : List Move). Step H L p (suc n) m x) (rest-is t) (here m k p n s)

-- ---- moves one after the other

-- What is held of a partition after a move depends on what was held of it alone,
made_cong : (m : Move) (H K : ℕ → List ℕ) (p : ℕ) → H p ≡ K p → made m H p ≡ made m K p
unfolding made
made_cong m H K p e = ap (λ (r : List ℕ). cond (eqb p m.partition) (changed m r) r) e

-- and so after several.
pub after_cong : (ms : List Move) (H K : ℕ → List ℕ) (p : ℕ) → H p ≡ K p → after ms H p ≡ after ms K p
unfolding after
after_cong [] H K p e = e
after_cong (m ∷ ms) H K p e = after_cong ms (made m H) (made m K) p (made_cong m H K p e)

-- Moves, and then others.
pub after-append : (k l : List Move) (H : ℕ → List ℕ) → after (k ++ l) H ≡ after l (after k H)
unfolding after
after-append [] l H = refl
after-append (m ∷ k) l H = after-append k l (made m H)

-- ---- any number of moves

-- What holds after some of the moves from H to L, K being held then: the moves left are those from K.
pub record Cut (H L : ℕ → List ℕ) (n : ℕ) (K : ℕ → List ℕ) (left : List Move) : Type 0 where
  pub same : moves_from K L 0 n ≡ left
  pub between : Between H L K

module _ (L : ℕ → List ℕ) (n : ℕ) (rl : (p : ℕ) → rising (L p) ≡ true) where
  -- The first k moves made.
  pub cut : (k : ℕ) (ms : List Move) (H : ℕ → List ℕ) → ((p : ℕ) → rising (H p) ≡ true) → moves_from H L 0 n ≡ ms
      → Cut H L n (after (take k ms) H) (drop k ms)
  unfolding after
  cut zero ms H rh e = record { same = e; between = record { rises = rh; whole = λ q s h. h; room = λ q. omega arith; within = λ q i h. inl h } }
  cut (suc k) [] H rh e = record { same = e; between = record { rises = rh; whole = λ q s h. h; room = λ q. omega arith; within = λ q i h. inl h } }
  cut (suc k) (m ∷ ms) H rh e =
      let s = one-step H L rh rl 0 n m ms e in
      let b = s.between in
      let r = cut k ms (made m H) b.rises s.left in
      let c = r.between in
      record {
        same = r.same;
        between = record {
          rises = c.rises;
          whole = λ q s h. c.whole q s (b.whole q s h);
          room = λ q. omega (arith, c.room q, b.room q);
          within = λ q i h. ⊎_elim (λ y. b.within q i y) (λ y. inr y) (c.within q i h);
        };
      }

  -- Where no move is left, the new rows are held.
  pub none_left : (H : ℕ → List ℕ) → ((p : ℕ) → rising (H p) ≡ true) → (p k : ℕ) → moves_from H L p k ≡ [] → (q : ℕ) → p ≤ q → q < p + k → H q ≡ L q
  unfolding moves_from row_moves
  none_left H rh p zero e q l u = absurd (omega arith)
  none_left H rh p (suc k) e q l u =
      ⊎_elim (λ z. subst (λ (x : ℕ). H x ≡ L x) z (equal (empty_left (row_moves p (H p) (L p)) (moves_from H L (suc p) k) e)))
      (λ z. none_left H rh (suc p) k (empty_right (row_moves p (H p) (L p)) (moves_from H L (suc p) k) e) q (omega (arith, z)) (omega arith)) (eq_or_ne p q)
    where
      empty_left : (x y : List Move) → x ++ y ≡ [] → x ≡ []
      empty_left [] y z = refl
      empty_left (a ∷ x) y z = absurd (omega (arith, ap length z))

      empty_right : (x y : List Move) → x ++ y ≡ [] → y ≡ []
      empty_right [] y z = z
      empty_right (a ∷ x) y z = absurd (omega (arith, ap length z))

      unmapped : (f : ℕ → Move) (x : List ℕ) → map f x ≡ [] → x ≡ []
      unmapped f [] z = refl
      unmapped f (a ∷ x) z = absurd (omega (arith, ap length z))

      equal : row_moves p (H p) (L p) ≡ [] → H p ≡ L p
      equal z =
          let sent = map (send p) (missing (L p) (H p)) in
          let dropped = map (discard p) (missing (H p) (L p)) in
          let to = none-missing (L p) (H p) (unmapped (send p) (missing (L p) (H p)) (empty_left sent dropped z)) in
          let back = none-missing (H p) (L p) (unmapped (discard p) (missing (H p) (L p)) (empty_right sent dropped z)) in
          rising_same 0 0 (H p) (L p) (rh p) (rl p) (λ i. same_test (mem i (H p)) (mem i (L p)) (back i) (to i))
