-- Many changes: "making the reverses in backward order restores the cluster box for box", and a record all of whose changes are made holds changes alone.
-- Assumes nothing.
use Prim.Native.Nat.{ℕ, ◌+◌, ◌≤◌}
use mathlib.Core.Path.{◌≡◌, refl, sym, ap, ap₂, ◌∙◌, subst}
use mathlib.Core.List.{List, [], ◌∷◌, ◌++◌}
use native.Mathlib.Omega.{arith}
use lib.ListN.{length, drop, length-append, length-drop, take-append-drop}
use lib.Seq.{drop-length, drop-drop, drop-append_seam}
use Rattle.cluster.specs.Terms.{topology}
use Rattle.cluster.specs.TermsReading.{slots_of}
use Rattle.cluster.specs.declared.Cluster.{Cluster}
use Rattle.cluster.proofs.Slots.{topology-slots}
use Rattle.fields.specs.RecordField.{Bytes, head_width}
use Rattle.change_fields.specs.RecordChange.{change_record, change_in}
use Rattle.change_fields.specs.declared.Change.{Change}
use Rattle.change_fields.proofs.Changes.{change-back}
use Rattle.changes.specs.TermsUndo.{cluster_after, byte_after, reverse_given, FitsNodes, Staged, AllMade}
use Rattle.changes.specs.TermsUndo.Staged.{none, more}
use Rattle.changes.specs.TermsUndo.AllMade.{ended, next}
use Rattle.changes.proofs.Undo.{taken, taken_byte, stays_accepted, undone_at, fits_after}

-- ---- the reverses, made from the last to the first

-- The numbers of the nodes fit their bytes after each change.
fits_staged : (c d : Cluster) (u : List ℕ) → FitsNodes (topology c) → Staged c d u → FitsNodes (topology d)
fits_staged c d u fits none = fits
fits_staged c d u fits (more p v s at before bytes a) = fits_after p s at bytes (fits_staged c p v fits before) a

-- The reverses stand from byte b of w to its end. They are made on the last cluster in its slots, and lead back to the first in its slots.
undo_all : (c d : Cluster) (u w : List ℕ) (b : ℕ) → FitsNodes (topology c) → Staged c d u → drop b w ≡ u → b ≤ length w
    → AllMade w b (slots_of (topology d)) (slots_of (topology c))
undo_all c d u w b fits none e h =
    let end : length w ≡ b = omega (arith, length-drop b w, ap length e) in
    subst (λ (k : ℕ). AllMade w k (slots_of (topology c)) (slots_of (topology c))) end (ended (slots_of (topology c)))
undo_all c d u w b fits (more p v s at before bytes a) e h =
    let g = reverse_given p s at in
    let r = undone_at p s at w v b bytes (fits_staged c p v fits before) a e in
    let rest : drop (b + length g) w ≡ v = sym (drop-drop (length g) b w) ∙ (ap (drop (length g)) e ∙ drop-append_seam g v) in
    let room : b + length g ≤ length w = omega (arith, length-drop b w, ap length e, length-append g v) in
    let back = undo_all c p v w (b + length g) fits before rest room in
    subst (λ (k : Cluster). AllMade w b k (slots_of (topology c))) (stays_accepted p s at a).slots
    (next b (cluster_after p s at) (slots_of (topology c)) r.accepted
    (subst (λ (k : Cluster). AllMade w (byte_after (cluster_after p s at) w b) k (slots_of (topology c))) (sym r.back)
    (subst (λ (k : ℕ). AllMade w k (slots_of (topology p)) (slots_of (topology c))) (sym r.whole) back)))

pub restores : (c d : Cluster) (u : List ℕ) → FitsNodes (topology c) → Staged c d u → (e : Cluster) × (AllMade u 0 d e × (topology e ≡ topology c))
restores c d u fits none = (c, (ended c, refl))
restores c d u fits (more p v s at before bytes a) =
    let w = reverse_given p s at ++ v in
    let all = undo_all c (cluster_after p s at) w w 0 fits (more p v s at before bytes a) refl (omega arith) in
    (slots_of (topology c), (subst (λ (k : Cluster). AllMade w 0 k (slots_of (topology c))) (sym (stays_accepted p s at a).slots) all, topology-slots (topology c)))

-- ---- a record all of whose changes are made

changes-from : (s : List ℕ) (at : ℕ) (d e : Cluster) → Bytes s → AllMade s at d e → (xs : List Change) × (drop at s ≡ change_record xs)
unfolding change_record
changes-from s at d e bytes (ended c) = ([], drop-length s)
changes-from s at d e bytes (next here p q a later) =
    let t = taken p s here a in
    let x = change_in s t.tag t.start in
    let k = change-back s here t.tag t.start t.len bytes t.body in
    let r = changes-from s (byte_after p s here) (cluster_after p s here) q bytes later in
    let step : here + (head_width + t.len) ≡ byte_after p s here = omega (arith, taken_byte p s here t, k.1) in (
      x ∷ r.0,
      sym (take-append-drop (head_width + t.len) (drop here s))
          ∙ ap₂ (λ (y z : List ℕ). y ++ z) k.0 (drop-drop (head_width + t.len) here s ∙ (ap (λ (n : ℕ). drop n s) step ∙ r.1)),
    )

pub only_changes : (s : List ℕ) (d e : Cluster) → Bytes s → AllMade s 0 d e → (xs : List Change) × (s ≡ change_record xs)
only_changes s d e bytes all = changes-from s 0 d e bytes all
