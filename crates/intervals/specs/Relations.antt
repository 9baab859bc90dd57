-- The five answers: a number for each, what they say together, and how an answer turns when the two intervals change places.
-- Assumes nothing: these are definitions.
use Rattle.std.specs.Prelude.{ℕ, Bool, true, false}
use Rattle.intervals.specs.declared.Relation.{Relation}
use Rattle.intervals.specs.declared.Relation.TheVariants.{Same, Holds, Held, Earlier, Later}

-- in document 02's order
abbrev pub relation_number : Relation → ℕ
relation_number Same = 0
relation_number Holds = 1
relation_number Held = 2
relation_number Earlier = 3
relation_number Later = 4

-- the first holds the second, itself included
abbrev pub contains : Relation → Bool
contains Same = true
contains Holds = true
contains Held = false
contains Earlier = false
contains Later = false

-- the first holds the second, another one
abbrev pub wider : Relation → Bool
wider Same = false
wider Holds = true
wider Held = false
wider Earlier = false
wider Later = false

-- the first begins before the second, where no two begin together
abbrev pub begins_first : Relation → Bool
begins_first Same = false
begins_first Holds = true
begins_first Held = false
begins_first Earlier = true
begins_first Later = false

-- the answer of compare (b, a), from that of compare (a, b)
abbrev pub exchanged : Relation → Relation
exchanged Same = Same
exchanged Holds = Held
exchanged Held = Holds
exchanged Earlier = Later
exchanged Later = Earlier
