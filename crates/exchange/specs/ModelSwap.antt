-- When one exchange leaves a row valid, as one number.
-- Assumes nothing.
use Rattle.std.specs.Prelude.{ℕ, ◌+◌, ◌-◌}
use Rattle.sums.specs.ModelSums.{is}
use Rattle.exchange.specs.ModelRow.{zone_count, cover}

-- At least 1 where node b may replace a node of zone z in the row S. It adds the four reasons: S has another node of zone z; b is of zone z;
-- b's zone is not touched by S; S touches more than Z zones.
unfoldable pub fits : ℕ → ℕ → (ℕ → ℕ) → (ℕ → ℕ) → ℕ → ℕ → ℕ
fits N Z zone S z b =
    (zone_count N zone S z - 1) + is (zone b) z + (1 - zone_count N zone S (zone b)) + (cover N zone S - Z)
