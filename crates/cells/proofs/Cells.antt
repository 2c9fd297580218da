-- The laws of tabulated and overwritten lists.
-- Assumes nothing.
use Prim.Native.Nat.{ℕ, zero, suc, ◌+◌, ◌-◌, ◌≤◌, ◌<◌}
use mathlib.Core.Path.{◌≡◌, refl, sym, ap, ap₂, ◌∙◌, subst}
use mathlib.Core.List.{List, [], ◌∷◌, ◌++◌, map, append_assoc}
use mathlib.Core.Logic.{⊎_elim}
use native.Mathlib.Nat.{add-zero, zero-add, sub-zero}
use native.Mathlib.Numerals.{add-one}
use native.Mathlib.Omega.{arith}
use lib.ListN.{length, take, drop, get_or, set, length-append, length-set, length-map, get_or-append}
use lib.Seq.{drop-cons, set_at, get_or-append-add, get_or-set_same, get_or-set_other, ext_get_or}
use Rattle.sums.proofs.Sum.{lt_or_ge}
use Rattle.sums.specs.TermsSums.{tab}
use Rattle.cells.specs.ModelCells.{put}

module _ {A : Type 0} where
  pub length-tab : (f : ℕ → A) (n : ℕ) → length (tab f n) ≡ n
  unfolding tab
  length-tab f zero = refl
  length-tab f (suc n) = length-append (tab f n) (f n ∷ []) ∙ (ap (λ (k : ℕ). k + 1) (length-tab f n) ∙ add-one n)

  -- The cell of a tabulated list.
  pub get_or_tab : (f : ℕ → A) (n i : ℕ) (d : A) → i < n → get_or (tab f n) i d ≡ f i
  unfolding tab
  get_or_tab f zero i d l = absurd (omega arith)
  get_or_tab f (suc n) i d l =
      ⊎_elim (λ a. get_or-append (tab f n) (f n ∷ []) d i (omega (arith, length-tab f n)) ∙ get_or_tab f n i d a)
      (λ b. let e : i ≡ n = omega arith in
      ap (λ (k : ℕ). get_or (tab f n ++ (f n ∷ [])) k d) (e ∙ (sym (length-tab f n) ∙ sym (add-zero (length (tab f n)))))
      ∙ (get_or-append-add (tab f n) (f n ∷ []) 0 d ∙ ap f (sym e)))
      (lt_or_ge i n)

  -- Equal cells give equal tabulated lists.
  pub tab_cong : (f g : ℕ → A) (n : ℕ) → ((i : ℕ) → i < n → f i ≡ g i) → tab f n ≡ tab g n
  unfolding tab
  tab_cong f g zero h = refl
  tab_cong f g (suc n) h =
      ap₂ (λ (l : List A) (x : A). l ++ (x ∷ [])) (tab_cong f g n (λ i l. h i (omega arith))) (h n (omega arith))

  -- A list is the table of its own cells.
  pub tab_get_or : (l : List A) (d : A) → tab (λ i. get_or l i d) (length l) ≡ l
  tab_get_or l d =
      ext_get_or d (tab (λ i. get_or l i d) (length l)) l (length-tab (λ i. get_or l i d) (length l))
      (λ i h. get_or_tab (λ k. get_or l k d) (length l) i d (subst (λ (n : ℕ). i < n) (length-tab (λ i. get_or l i d) (length l)) h))

  -- Writing no cell yet: the table of none, then the old list.
  pub tab-none : (f : ℕ → A) (l : List A) → l ≡ tab f 0 ++ drop 0 l
  unfolding tab
  tab-none f l = refl

  -- Writing one cell more.
  pub tab-more : (f : ℕ → A) (i : ℕ) (l : List A) → i < length l → set (tab f i ++ drop i l) i (f i) ≡ tab f (i + 1) ++ drop (i + 1) l
  unfolding tab
  tab-more f i [] h = absurd (omega arith)
  tab-more f i (x ∷ xs) h =
      ap (λ (r : List A). set (tab f i ++ r) i (f i)) (drop-cons (x ∷ xs) i x h)
      ∙ (set_at (tab f i) (get_or (x ∷ xs) i x) (drop (suc i) (x ∷ xs)) (f i) i (length-tab f i)
      ∙ (sym (append_assoc (tab f i) (f i ∷ []) (drop (suc i) (x ∷ xs)))
      ∙ ap (λ (k : ℕ). tab f k ++ drop k (x ∷ xs)) (sym (add-one i))))

  pub length-put : (b : ℕ) (f : ℕ → A) (n : ℕ) (l : List A) → length (put b f n l) ≡ length l
  unfolding put
  length-put b f zero l = refl
  length-put b f (suc n) l = length-set (put b f n l) (b + n) (f n) ∙ length-put b f n l

  pub put-none : (b : ℕ) (f : ℕ → A) (l : List A) → l ≡ put b f 0 l
  unfolding put
  put-none b f l = refl

  pub put-more : (b : ℕ) (f : ℕ → A) (n : ℕ) (l : List A) → set (put b f n l) (b + n) (f n) ≡ put b f (n + 1) l
  unfolding put
  put-more b f n l = ap (λ (k : ℕ). put b f k l) (sym (add-one n))

  -- A turn of a loop that writes the first cells.
  pub put_next : (f : ℕ → A) (i : ℕ) (x : A) (l₀ l : List A) → l ≡ put 0 f i l₀ → x ≡ f i → set l i x ≡ put 0 f (i + 1) l₀
  put_next f i x l₀ l e q =
      ap₂ (λ (r : List A) (v : A). set r i v) e q ∙ (ap (λ (k : ℕ). set (put 0 f i l₀) k (f i)) (sym (zero-add i)) ∙ put-more 0 f i l₀)

  -- Equal cells, written, give equal lists.
  pub put_cong : (b : ℕ) (f g : ℕ → A) (n : ℕ) (l : List A) → ((i : ℕ) → i < n → f i ≡ g i) → put b f n l ≡ put b g n l
  unfolding put
  put_cong b f g zero l h = refl
  put_cong b f g (suc n) l h =
      ap₂ (λ (r : List A) (x : A). set r (b + n) x) (put_cong b f g n l (λ i k. h i (omega arith))) (h n (omega arith))

  -- A cell outside what was written keeps its value.
  pub get_or_put-out : (b : ℕ) (f : ℕ → A) (n : ℕ) (l : List A) (i : ℕ) (d : A) → ((j : ℕ) → j < n → i ≡ b + j → ⊥) → get_or (put b f n l) i d ≡ get_or l i d
  unfolding put
  get_or_put-out b f zero l i d h = refl
  get_or_put-out b f (suc n) l i d h =
      get_or-set_other (put b f n l) (b + n) i (f n) d (h n (omega arith)) ∙ get_or_put-out b f n l i d (λ j m. h j (omega arith))

  -- A cell that was written holds its new value.
  pub get_or_put_in : (b : ℕ) (f : ℕ → A) (n : ℕ) (l : List A) (j : ℕ) (d : A) → j < n → b + n ≤ length l → get_or (put b f n l) (b + j) d ≡ f j
  unfolding put
  get_or_put_in b f zero l j d h k = absurd (omega arith)
  get_or_put_in b f (suc n) l j d h k =
      ⊎_elim (λ a. get_or-set_other (put b f n l) (b + n) (b + j) (f n) d (λ e. omega arith) ∙ get_or_put_in b f n l j d a (omega arith))
      (λ c. let e : j ≡ n = omega arith in
      ap (λ (i : ℕ). get_or (set (put b f n l) (b + n) (f n)) (b + i) d) e
      ∙ (get_or-set_same (put b f n l) (b + n) (f n) d (omega (arith, length-put b f n l)) ∙ ap f (sym e)))
      (lt_or_ge j n)

  -- The same of a list written from its first cell on.
  pub get_or_put-first : (f : ℕ → A) (n : ℕ) (l : List A) (j : ℕ) (d : A) → j < n → n ≤ length l → get_or (put 0 f n l) j d ≡ f j
  get_or_put-first f n l j d a b = ap (λ (k : ℕ). get_or (put 0 f n l) k d) (sym (zero-add j)) ∙ get_or_put_in 0 f n l j d a (omega arith)

  -- Cells that are written again, all but those that stay the same.
  pub put-over : (d : A) (b : ℕ) (f g : ℕ → A) (m n : ℕ) (l : List A) → m ≤ n → b + n ≤ length l → ((i : ℕ) → m ≤ i → i < n → g i ≡ f i)
      → put b f m (put b g n l) ≡ put b f n l
  put-over d b f g m n l k long same =
      ext_get_or d (put b f m (put b g n l)) (put b f n l) (length-put b f m (put b g n l) ∙ (size ∙ sym (length-put b f n l)))
      (λ q h. ⊎_elim (λ a. outside q (λ j c e. omega arith))
      (λ a. ⊎_elim
      (λ c. let e : q ≡ b + (q - b) = omega arith in
      ap (λ (i : ℕ). get_or (put b f m (put b g n l)) i d) e ∙ (inside (q - b) (omega arith) ∙ (sym (get_or_put_in b f n l (q - b) d (omega arith) long) ∙ ap (λ (i : ℕ). get_or (put b f n l) i d) (sym e))))
      (λ c. outside q (λ j i e. omega arith)) (lt_or_ge q (b + n)))
      (lt_or_ge q b))
    where
      size : length (put b g n l) ≡ length l
      size = length-put b g n l

      outside : (q : ℕ) → ((j : ℕ) → j < n → q ≡ b + j → ⊥) → get_or (put b f m (put b g n l)) q d ≡ get_or (put b f n l) q d
      outside q o = get_or_put-out b f m (put b g n l) q d (λ j c. o j (omega arith)) ∙ (get_or_put-out b g n l q d o ∙ sym (get_or_put-out b f n l q d o))

      inside : (j : ℕ) → j < n → get_or (put b f m (put b g n l)) (b + j) d ≡ f j
      inside j c =
          ⊎_elim (λ a. get_or_put_in b f m (put b g n l) j d a (omega (arith, size)))
          (λ a. get_or_put-out b f m (put b g n l) (b + j) d (λ i h e. omega arith) ∙ (get_or_put_in b g n l j d c long ∙ same j a c))
          (lt_or_ge j m)

  -- What a scan of the first n cells has before it at cell i: that cell, then what it has before it at cell i + 1.
  pub rest_cons : (l : List A) (n i : ℕ) (d : A) → i < n → n ≤ length l → take (n - i) (drop i l) ≡ get_or l i d ∷ take (n - (i + 1)) (drop (i + 1) l)
  rest_cons l n i d h k =
      let e : n - i ≡ suc (n - (i + 1)) = omega arith in
      ap₂ (λ (m : ℕ) (r : List A). take m r) e (drop-cons l i d (omega arith))
      ∙ ap (λ (j : ℕ). get_or l i d ∷ take (n - (i + 1)) (drop j l)) (sym (add-one i))

  -- A scan that has not begun has all of the first n cells before it.
  pub rest_all : (l : List A) (n : ℕ) → take n l ≡ take (n - 0) (drop 0 l)
  rest_all l n = ap (λ (k : ℕ). take k l) (sym (sub-zero n))

  -- A scan that is at its end has nothing before it.
  pub rest-none : (l : List A) (n i : ℕ) → n ≤ i → take (n - i) (drop i l) ≡ []
  rest-none l n i h = let e : n - i ≡ 0 = omega arith in ap (λ (m : ℕ). take m (drop i l)) e

  -- The length of a list, from that of its image.
  pub length_of_map : {B : Type 0} (f : A → B) (l : List A) (n : ℕ) → length (map f l) ≡ n → length l ≡ n
  length_of_map f l n e = sym (length-map l f) ∙ e
