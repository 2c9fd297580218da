-- What is kept stays right until a row changes, and is right again where it is renewed; the graph that comes of it.
-- Assumes nothing.
use Prim.Native.Nat.{ℕ, zero, suc, ◌+◌, ◌-◌, ◌*◌, ◌/◌, ◌%◌, ◌^◌, ◌≤◌, ◌<◌, min, max}
use mathlib.Core.Path.{◌≡◌, refl, sym, ap, ap₂, ◌∙◌, subst}
use mathlib.Core.Bool.{cond}
use mathlib.Core.List.{List, ◌++◌}
use mathlib.Core.Logic.{⊎_elim}
use native.Mathlib.Numerals.{add-one}
use native.Mathlib.Omega.{arith}
use lib.Bits.{bit_or}
use lib.Dec.{ltb}
use lib.Pow.{pow_pos, shr-shr, mod-pow-add}
use lib.ListN.{length, get_or, drop, take, take-append-drop}
use lib.Seq.{ext_get_or, length-take-le, get_or-take, get_or-drop}
use borrow.Author.Tests.{lt-ltb, le-ltb}
use Rattle.cluster.specs.Terms.{most_nodes, buffer_rows}
use Rattle.levels.specs.ModelGraph.{arc_cells}
use Rattle.sums.specs.TermsSums.{one_if, tab}
use Rattle.sums.specs.ModelSums.{is}
use Rattle.sums.proofs.Sum.{lt_or_ge, eq_or_ne, is_ne}
use Rattle.sets.specs.ModelBits.{mask_bits, bit, without_of}
use Rattle.sets.specs.ModelMembers.{Comes}
use Rattle.sets.proofs.Bits.{bit_or_lem, bit_not}
use Rattle.sets.proofs.Laws.{bit_le, bit_zero, bit_shr, bit-without, mask_unique}
use Rattle.cells.proofs.Cells.{length-tab, get_or_tab}
use Rattle.cells.proofs.Parts.{part-before, part_in, part-after, part_length}
use Rattle.swaps.specs.ModelLeaves.{leaf_rows, ChangedIn}
use Rattle.arcs.specs.ModelMoves.{moves, moves_to}
use Rattle.arcs.specs.ModelGrowth.{Grown, Written}
use Rattle.graph.specs.ModelArcs.{copies_to, roomy, cell_of, arcs_of}
use Rattle.unions.specs.ModelUnions.{parts, most_leaves, kept_cells, Merged, Gathered}
use Rattle.graph.specs.ModelKept.{branch_rows, Part, rows_in, Leaf, Branch, Kept, Filled, Renewed}
use Rattle.graph.proofs.Branches.{branch_merged, all-moves}
use Rattle.unions.proofs.Unions.{max_cong}

-- ---- digits of the set of stale leaves

-- The digits above a.
bit_above : (a m b : ℕ) → bit (m / 2 ^ a) b ≡ bit m (a + b)
bit_above a m b = bit_shr (m / 2 ^ a) b ∙ (ap (λ (x : ℕ). x % 2) (shr-shr m a b) ∙ sym (bit_shr m (a + b)))

-- A remainder without its lowest digit, and that digit.
halves : (k m : ℕ) → m % 2 ^ suc k ≡ (m / 2 % 2 ^ k) * 2 + m % 2
halves k m = ap (λ (x : ℕ). m % 2 ^ x) (sym (add-one k)) ∙ mod-pow-add m k 1

-- The digits below k.
bit-low : (k m b : ℕ) → b < k → bit (m % 2 ^ k) b ≡ bit m b
unfolding bit
bit-low zero m b l = absurd (omega arith)
bit-low (suc k) m zero l = omega (arith, halves k m)
bit-low (suc k) m (suc b) l = ap (λ (x : ℕ). bit x b) (omega (arith, halves k m)) ∙ bit-low k (m / 2) b (omega arith)

-- What a node leads to, by the rows and by its room.
led : (t m r i o a : ℕ) → t ≤ 1 → t ≡ max m (min r (min i a)) → r ≡ o → t ≡ min 1 (max m (min i (min o a)))
led t m r i o a l e f =
    let d : t ≡ max m (min i (min o a)) = e ∙ (ap (λ (x : ℕ). max m (min x (min i a))) f ∙ ap (max m) (turned o i a)) in
    d ∙ cut (max m (min i (min o a))) (subst (λ (x : ℕ). x ≤ 1) d l)
  where
    turned : (o i a : ℕ) → min o (min i a) ≡ min i (min o a)
    turned o i a = omega arith

    cut : (x : ℕ) → x ≤ 1 → x ≡ min 1 x
    cut x h = omega arith

-- The leaves of branch i in the set of all.
pub bit-part : (stale i b : ℕ) → b < parts → bit (stale / 2 ^ (parts * i) % 2 ^ parts) b ≡ bit stale (parts * i + b)
bit-part stale i b l = bit-low parts (stale / 2 ^ (parts * i)) b l ∙ bit_above (parts * i) stale b

-- The leaves that are left stale before branch i is looked at.
unfoldable pub stale_from : ℕ → ℕ → ℕ → ℕ
stale_from stale i l = cond (ltb l (parts * i)) 0 (bit stale l)

stale_passed : (stale i l : ℕ) → l < parts * i → stale_from stale i l ≡ 0
unfolding stale_from
stale_passed stale i l h = rw (lt-ltb l (parts * i) h)

stale_left : (stale i l : ℕ) → parts * i ≤ l → stale_from stale i l ≡ bit stale l
unfolding stale_from
stale_left stale i l h = rw (le-ltb l (parts * i) h)

module _ (former : List ℕ) (P : ℕ) (mates : List ℕ) (all z : ℕ) where
  -- ---- rows that change

  -- A part of cells that are the same, and of rows that are the same.
  part_same : (rows new kept next : List ℕ) (first n k : ℕ) → ((t : ℕ) → t < n → get_or new (first + t) 0 ≡ get_or rows (first + t) 0)
      → ((j : ℕ) → j < arc_cells → get_or next (k * arc_cells + j) 0 ≡ get_or kept (k * arc_cells + j) 0)
      → Part rows former mates all z first n k kept → Part new former mates all z first n k next
  part_same rows new kept next first n k er ek B =
      record {
        sets = λ j x p q.
            ap (λ (v : ℕ). bit v x) (ek j p)
            ∙ (B.sets j x p q
            ∙ unfold moves_to in
            max_cong n (λ t. moves mates all z (get_or (drop first rows) t 0) (get_or (drop first former) t 0) j x)
            (λ t. moves mates all z (get_or (drop first new) t 0) (get_or (drop first former) t 0) j x)
            (λ t l. ap (λ (r : ℕ). moves mates all z r (get_or (drop first former) t 0) j x)
            (get_or-drop first rows t 0 ∙ (sym (er t l) ∙ sym (get_or-drop first new t 0)))));
      }

  -- Nothing is kept where all leaves are stale.
  pub kept-none : (rows kept : List ℕ) → length kept ≡ kept_cells → Kept rows former P mates all z (bit (2 ^ 64 - 1)) kept
  kept-none rows kept e =
      record {
        long = e;
        leaf = λ l h d. absurd (omega (arith, d, all-stale l h));
        branch = λ i h d. absurd (omega (arith, d 0 (omega arith), all-stale (parts * i + 0) (omega arith)));
      }
    where
      all-stale : (l : ℕ) → l < most_leaves → bit (2 ^ 64 - 1) l ≡ 1
      all-stale l h = omega (arith, bit_not 64 0 l (pow_pos 64) h, bit_zero l)

  -- Where rows change, the leaves that were right and have no changed row stay right, and so do their branches.
  pub kept-changed : (rows new kept : List ℕ) (stale m : ℕ) → Kept rows former P mates all z (bit stale) kept → ChangedIn m rows new
      → Kept new former P mates all z (bit (bit_or stale m)) kept
  kept-changed rows new kept stale m K C =
      record {
        long = K.long;
        leaf = λ l h e.
            let u : max (bit stale l) (bit m l) ≡ 0 = sym (bit_or_lem stale m l) ∙ e in
            part_same rows new kept kept (leaf_rows * l) (rows_in leaf_rows P l) l (λ t q. C.others (leaf_rows * l + t) (same l t (omega arith) ∙ omega arith)) (λ j p. refl) (K.leaf l h (omega arith));
        branch = λ i h e.
            let u : (b : ℕ) → b < parts → max (bit stale (parts * i + b)) (bit m (parts * i + b)) ≡ 0 = λ b l. sym (bit_or_lem stale m (parts * i + b)) ∙ e b l in
            part_same rows new kept kept (branch_rows * i) (rows_in branch_rows P i) (most_leaves + i)
            (λ t q. let o = u (t / leaf_rows) (omega arith) in C.others (branch_rows * i + t) (within i t ∙ omega (arith, o))) (λ j p. refl)
            (K.branch i h (λ b l. omega (arith, u b l)));
      }
    where
      same : (l t : ℕ) → t < leaf_rows → bit m ((leaf_rows * l + t) / leaf_rows) ≡ bit m l
      same l t q = ap (bit m) (omega arith)

      within : (i t : ℕ) → bit m ((branch_rows * i + t) / leaf_rows) ≡ bit m (parts * i + t / leaf_rows)
      within i t = ap (bit m) (omega arith)

  -- ---- parts that are renewed

  -- The cells of a leaf that are written: its part of the cells, which was lent, comes back.
  pub filled : (rows kept ys : List ℕ) (l n : ℕ) (sub : List ℕ) → length kept ≡ kept_cells → l < most_leaves → length sub ≡ arc_cells → n ≡ rows_in leaf_rows P l
      → Written (moves_to (drop (l * leaf_rows) rows) (drop (l * leaf_rows) former) n mates all z) sub ys
      → Filled rows former P mates all z l kept (take (l * arc_cells) kept ++ (ys ++ drop (l * arc_cells + arc_cells - l * arc_cells) (drop (l * arc_cells) kept)))
  filled rows kept ys l n sub long h e en W =
      record {
        long = part_length at kept ys inside k is (omega arith);
        own = record {
          sets = λ j x p q.
              ap (λ (v : ℕ). bit v x) (part_in at kept ys inside (drop k (drop at kept)) j (omega (arith, W.long)))
              ∙ (W.bits j x p q ∙ ap₂ (λ (f m : ℕ). moves_to (drop f rows) (drop f former) m mates all z j x) start en);
        };
        others = λ i n. ⊎_elim (λ b. part-before at kept ys inside (drop k (drop at kept)) i b)
            (λ b. ⊎_elim (λ c. absurd (n (omega arith))) (λ c. part-after at kept ys inside k is i (omega arith)) (lt_or_ge i (at + arc_cells))) (lt_or_ge i at);
      }
    where
      at : ℕ
      at = l * arc_cells

      k : ℕ
      k = l * arc_cells + arc_cells - l * arc_cells

      start : l * leaf_rows ≡ leaf_rows * l
      start = omega arith

      inside : l * arc_cells ≤ length kept
      inside = omega arith

      is : length ys ≡ l * arc_cells + arc_cells - l * arc_cells
      is = omega (arith, W.long)

  -- Before a stale leaf is filled, those of branch i that are not left are right, and the other parts are as they were.
  pub record Filling (rows : List ℕ) (i left : ℕ) (old new : List ℕ) : Type 0 where
    pub long : length new ≡ length old
    pub done : (b : ℕ) → b < parts → bit left b ≡ 0 → Leaf rows former P mates all z (parts * i + b) new
    pub others : (c : ℕ) → (c / arc_cells / parts ≡ i → ⊥) → get_or new c 0 ≡ get_or old c 0

  -- A leaf more.
  pub filling_more : (rows : List ℕ) (i left b next : ℕ) (old kept new : List ℕ) → b < parts → Comes left b next
      → Filled rows former P mates all z (parts * i + b) kept new → Filling rows i left old kept → Filling rows i next old new
  filling_more rows i left b next old kept new l C F D =
      record {
        long = F.long ∙ D.long;
        done = λ x h e.
            ⊎_elim (λ s. subst (λ (k : ℕ). Leaf rows former P mates all z (parts * i + k) new) (sym s) F.own)
            (λ n. part_same rows rows kept new (leaf_rows * (parts * i + x)) (rows_in leaf_rows P (parts * i + x)) (parts * i + x) (λ t q. refl)
            (λ j p. F.others ((parts * i + x) * arc_cells + j) (λ w. n (omega (arith, w))))
            (D.done x h (omega (arith, en x (omega arith), e, is_ne {a = b} {b = x} (λ w. n (sym w)))))) (eq_or_ne x b);
        others = λ c n. F.others c (λ w. n (omega (arith, w))) ∙ D.others c n;
      }
    where
      en : (x : ℕ) → x < mask_bits → bit next x ≡ bit left x - is b x
      en x h = ap (λ (y : ℕ). bit y x) (C.rest ∙ ap (without_of left) (sym C.least)) ∙ bit-without left b x h

  -- The branch after its leaves.
  pub renewed : (rows : List ℕ) (i left : ℕ) (old kept new : List ℕ) → i < parts → left ≡ 0 → Filling rows i left old kept → Merged (parts * i) (most_leaves + i) kept new
      → Renewed rows former P mates all z i old new
  renewed rows i left old kept new h e D M =
      record {
        long = M.long ∙ D.long;
        leaves = λ b l.
            part_same rows rows kept new (leaf_rows * (parts * i + b)) (rows_in leaf_rows P (parts * i + b)) (parts * i + b) (λ t q. refl)
            (λ j p. M.others ((parts * i + b) * arc_cells + j) (λ w. omega (arith, w))) (right b l);
        own = branch_merged rows former mates all z P i kept new right M.own;
        others = λ c n m. M.others c m ∙ D.others c n;
      }
    where
      right : (b : ℕ) → b < parts → Leaf rows former P mates all z (parts * i + b) kept
      right b l = D.done b l (ap (λ (x : ℕ). bit x b) e ∙ bit_zero b)

  -- At first all leaves are left as they are.
  pub kept-first : (rows kept : List ℕ) (stale : ℕ) → Kept rows former P mates all z (bit stale) kept → Kept rows former P mates all z (stale_from stale 0) kept
  kept-first rows kept stale K = record {
    long = K.long;
    leaf = λ l h d. K.leaf l h (sym (stale_left stale 0 l (omega arith)) ∙ d);
    branch = λ i h d. K.branch i h (λ b l. sym (stale_left stale 0 (parts * i + b) (omega arith)) ∙ d b l);
  }

  -- At last none is stale.
  pub kept-last : (rows kept : List ℕ) (stale i : ℕ) → i ≡ parts → Kept rows former P mates all z (stale_from stale i) kept → Kept rows former P mates all z (bit 0) kept
  kept-last rows kept stale i e K = record {
    long = K.long;
    leaf = λ l h d. K.leaf l h (stale_passed stale i l (omega arith));
    branch = λ b h d. K.branch b h (λ x l. stale_passed stale i (parts * b + x) (omega arith));
  }

  -- Branch i, where none of its leaves is stale.
  pub kept_branch : (rows kept : List ℕ) (stale i part : ℕ) → i < parts → part ≡ stale / 2 ^ (parts * i) % 2 ^ parts → Kept rows former P mates all z (stale_from stale i) kept
      → ((b : ℕ) → b < parts → bit part b ≡ 0 → Leaf rows former P mates all z (parts * i + b) kept) × (part ≡ 0 → Branch rows former P mates all z i kept)
  kept_branch rows kept stale i part h ep K = (
    λ b l e. K.leaf (parts * i + b) (omega arith) (own b l ∙ e),
    λ e. K.branch i h (λ b l. own b l ∙ (ap (λ (x : ℕ). bit x b) e ∙ bit_zero b)),
  )
    where
      own : (b : ℕ) → b < parts → stale_from stale i (parts * i + b) ≡ bit part b
      own b l = stale_left stale i (parts * i + b) (omega arith) ∙ (sym (bit-part stale i b l) ∙ ap (λ (x : ℕ). bit x b) (sym ep))

  -- One branch more is looked at.
  pub kept-renewed : (rows kept new : List ℕ) (stale i : ℕ) → i < parts → Renewed rows former P mates all z i kept new → Kept rows former P mates all z (stale_from stale i) kept
      → Kept rows former P mates all z (stale_from stale (i + 1)) new
  kept-renewed rows kept new stale i h R K =
      record {
        long = R.long ∙ K.long;
        leaf = λ l q d.
            ⊎_elim (λ a. old l q (stale_passed stale i l a) (λ w. omega (arith, w)))
            (λ a. ⊎_elim
            (λ o. let t : parts * i + (l - parts * i) ≡ l = omega arith in
            subst (λ (k : ℕ). Leaf rows former P mates all z k new) t (R.leaves (l - parts * i) (omega arith)))
            (λ o. old l q (stale_left stale i l a ∙ (sym (stale_left stale (i + 1) l o) ∙ d)) (λ w. omega (arith, w))) (lt_or_ge l (parts * (i + 1))))
            (lt_or_ge l (parts * i));
        branch = λ b q d.
            ⊎_elim (λ e. subst (λ (k : ℕ). Branch rows former P mates all z k new) (sym e) R.own)
            (λ n. part_same rows rows kept new (branch_rows * b) (rows_in branch_rows P b) (most_leaves + b) (λ t o. refl)
            (λ j p. R.others ((most_leaves + b) * arc_cells + j) (λ w. omega (arith, w)) (λ w. n (omega (arith, w))))
            (K.branch b q (λ x o. ⊎_elim (λ a. stale_passed stale i (parts * b + x) (omega arith))
            (λ a. let g : i + 1 ≤ b = omega (arith, n) in
            stale_left stale i (parts * b + x) (omega arith) ∙ (sym (stale_left stale (i + 1) (parts * b + x) (omega arith)) ∙ d x o)) (lt_or_ge b i))))
            (eq_or_ne b i);
      }
    where
      old : (l : ℕ) → l < most_leaves → stale_from stale i l ≡ 0 → (l / parts ≡ i → ⊥) → Leaf rows former P mates all z l new
      old l q d n =
          part_same rows rows kept new (leaf_rows * l) (rows_in leaf_rows P l) l (λ t o. refl)
          (λ j p. R.others (l * arc_cells + j) (λ w. n (omega (arith, w))) (λ w. omega (arith, w))) (K.leaf l q d)

  -- ---- the graph

  -- Where there is room for all sets, they are written.
  pub arcs-all : (rows kept caps l₀ l₁ l₂ : List ℕ) (room : ℕ) → P ≤ buffer_rows → Kept rows former P mates all z (bit 0) kept → arc_cells ≤ length l₀
      → ((u : ℕ) → u < most_nodes → bit room u ≡ one_if (ltb (copies_to rows P u) (get_or caps u 0))) → Gathered kept l₀ l₁
      → Grown (λ j b. min (bit room (j % most_nodes)) (min (is 1 (j / most_nodes)) (bit all b))) l₁ l₂ → ((j : ℕ) → get_or l₂ j 0 < 2 ^ mask_bits)
      → l₂ ≡ arcs_of rows former P mates caps all z l₀
  unfolding arcs_of cell_of roomy
  arcs-all rows kept caps l₀ l₁ l₂ room few K g er W G word =
      sym (take-append-drop arc_cells l₂)
      ∙ (ap₂ (λ (x y : List ℕ). x ++ y)
      (ext_get_or 0 (take arc_cells l₂) (tab (cell_of rows former P mates caps all z) arc_cells) (long ∙ sym (length-tab (cell_of rows former P mates caps all z) arc_cells))
      (λ j h. let q : j < arc_cells = omega (arith, long) in
      get_or-take arc_cells l₂ j 0 q ∙ (cell j q ∙ sym (get_or_tab (cell_of rows former P mates caps all z) arc_cells j 0 q))))
      (G.rest ∙ W.rest)
      ∙ sym (rw (le-ltb (length l₀) arc_cells g)))
    where
      long : length (take arc_cells l₂) ≡ arc_cells
      long = length-take-le arc_cells l₂ (omega (arith, G.long, W.long))

      moved : (j b : ℕ) → j < arc_cells → b < most_nodes → bit (get_or l₁ j 0) b ≡ moves_to rows former P mates all z j b
      moved j b p q =
          ap (λ (x : ℕ). bit x b) (W.own j p)
          ∙ all-moves rows former mates all z P kept few (λ i h. K.branch i h (λ x l. bit_zero (parts * i + x))) j b p q

      cell : (j : ℕ) → j < arc_cells → get_or l₂ j 0 ≡ cell_of rows former P mates caps all z j
      cell j q =
          mask_unique mask_bits (get_or l₂ j 0) (λ b. max (moves_to rows former P mates all z j b) (roomy (copies_to rows P) caps all j b)) (word j)
          (λ b r. let a = j % most_nodes in
          let e = G.bits j b q r in
          let m = moved j b q r in
          led (bit (get_or l₂ j 0) b) (moves_to rows former P mates all z j b) (bit room a) (is 1 (j / most_nodes)) (one_if (ltb (copies_to rows P a) (get_or caps a 0))) (bit all b)
          (bit_le (get_or l₂ j 0) b) (e ∙ ap (λ (x : ℕ). max x (min (bit room a) (min (is 1 (j / most_nodes)) (bit all b)))) m) (er a (omega arith)))
