-- Document 01, Failed: "For each variable .. whose two literals have the same start: the literal whose interval holds both and which holds no other such literal has failed". On slots: s is a literal's, twin s its complement's.
-- Assumes nothing: these are definitions.
use Rattle.std.specs.Prelude.{ℕ, Bool, not, ◌&&◌, eqb}
use Rattle.base.specs.Lists.{first, any_below}
use Rattle.literal.specs.Literals.{twin}
use Rattle.walk.specs.Walk.{Stamps}
use Rattle.walk.specs.Forest.{start_at}
use Rattle.hidden.specs.Hidden.{holds}

unfoldable pub same_start : Stamps → ℕ → Bool
same_start σ s = eqb (start_at σ s) (start_at σ (twin s))

unfoldable pub holds_both : Stamps → ℕ → ℕ → Bool
holds_both σ s x = holds σ x s && holds σ x (twin s)

-- x holds both, and holds no other slot that does
unfoldable pub lowest : Stamps → ℕ → ℕ → ℕ → Bool
lowest σ size s x = holds_both σ s x && not (any_below size (λ y. not (eqb y x) && (holds_both σ s y && holds σ x y)))

-- the slot below size that has failed
unfoldable pub failed_slot : Stamps → ℕ → ℕ → ℕ
failed_slot σ size s = first (lowest σ size s) size 0
