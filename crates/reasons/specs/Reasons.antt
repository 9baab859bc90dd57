-- Why Sweep's rule drops a clause or takes a literal out of it, on the literals and the stamp records of the tables. Document 02, CR 7: "the ends are the two literals the rule names (of several, the earliest in the clause, first end first)".
-- The rule is document 01's for three or more literals and for the literals taken out, and document 02's CR 2 for two. A chain from `top` to `bottom` shows that `top` implies `bottom`. Assumes nothing: these are definitions.
use Rattle.std.specs.Prelude.{◌<◌, ◌≡◌, length, ℤ, neg_ℤ}
use mathlib.Core.List.{List, [], ◌∷◌, ◌++◌, Memᴰ}
use Rattle.tables.specs.Tables.{Tables}
use Rattle.chains.specs.declared.Ends.{Ends}
use Rattle.chains.specs.Chains.{ends}
use Rattle.paper.specs.Records.{parent, Holds}
use Rattle.paper.specs.Sweeping.{Filtered, ToNoOther}

-- "of several, the earliest in the clause": m has P, and no literal in front of it has
pub record Earliest (P : ℤ → Type 0) (C : List ℤ) (m : ℤ) : Type 0 where
  pub before : List ℤ
  pub behind : List ℤ
  pub clause : C ≡ before ++ (m ∷ behind)
  pub has : P m
  pub none : (x : ℤ) → Memᴰ x before → P x → ⊥

-- ---- a dropped clause

-- "some literal's complement holds a literal of the clause": that of a does
pub record ComplementHolds (t : Tables) (C : List ℤ) (a : ℤ) : Type 0 where
  pub b : ℤ
  pub b_in : Memᴰ b C
  pub held : Holds t (neg_ℤ a) b

-- three or more literals: from −a to b, for the earliest a whose complement holds a literal of the clause ("first end first"), and then the earliest b that −a holds
pub record LongReason (t : Tables) (C : List ℤ) (e : Ends) : Type 0 where
  pub a : ℤ
  pub a_earliest : Earliest (ComplementHolds t C) C a
  pub top : e.top ≡ neg_ℤ a
  pub bottom : Earliest (λ b. Holds t (neg_ℤ a) b) C e.bottom

-- document 02, CR 2: "for one of its two edges p → q, p holds q and p is not q's parent"
pub record Transitive (t : Tables) (p q : ℤ) : Type 0 where
  pub held : Holds t p q
  pub no_parent : parent t q ≡ p → ⊥

-- the clause (a ∨ b): the edge −a → b if that is transitive, else the edge −b → a
pub data PairReason (t : Tables) (a b : ℤ) (e : Ends) : Type 0 where
  first : e ≡ ends (neg_ℤ a) b → Transitive t (neg_ℤ a) b → PairReason t a b e
  second : (Transitive t (neg_ℤ a) b → ⊥) → e ≡ ends (neg_ℤ b) a → Transitive t (neg_ℤ b) a → PairReason t a b e

pub data DropReason (t : Tables) (C : List ℤ) (e : Ends) : Type 0 where
  two : (a b : ℤ) → C ≡ a ∷ b ∷ [] → PairReason t a b e → DropReason t C e
  more : 2 < length C → LongReason t C e → DropReason t C e

-- ---- a literal that is taken out

-- l holds m, another literal
pub record HoldsOther (t : Tables) (l m : ℤ) : Type 0 where
  pub other : m ≡ l → ⊥
  pub held : Holds t l m

-- the complement of m, another literal, holds that of l
pub record HeldByOther (t : Tables) (l m : ℤ) : Type 0 where
  pub other : m ≡ l → ⊥
  pub held : Holds t (neg_ℤ m) (neg_ℤ l)

-- l goes by the second rule: it holds no other literal of the clause, and m is the earliest of those that the first rule leaves whose complement holds that of l
pub record SecondRule (t : Tables) (C : List ℤ) (l m : ℤ) : Type 0 where
  pub stays : ToNoOther (λ x y. Holds t x y) C l
  -- "first, each literal that holds another literal of the clause goes"
  pub rest : List ℤ
  pub left : Filtered (ToNoOther (λ x y. Holds t x y) C) C rest
  -- "then, of the rest, each whose complement is held by another's complement"
  pub m_earliest : Earliest (HeldByOther t l) rest m

-- by the first rule from l to the earliest other literal of the clause that it holds; by the second from −m to −l
pub data LiteralReason (t : Tables) (C : List ℤ) (l : ℤ) (e : Ends) : Type 0 where
  first : e.top ≡ l → Earliest (HoldsOther t l) C e.bottom → LiteralReason t C l e
  second : (m : ℤ) → SecondRule t C l m → e ≡ ends (neg_ℤ m) (neg_ℤ l) → LiteralReason t C l e
