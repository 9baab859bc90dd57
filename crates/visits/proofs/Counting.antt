-- The loop that counts what stands: what is counted so far, and what the records that are left give, make the whole. And the counts that a call answers, from two such countings. Assumes nothing.
use Prim.Native.Nat.{ℕ, zero, suc, ◌+◌, ◌*◌, ◌-◌, ◌≤◌, ◌<◌}
use native.Mathlib.Omega.{arith}
use mathlib.Core.Path.{◌≡◌, refl, ap, ◌∙◌}
use mathlib.Core.Bool.{Bool}
use lib.IntN.{ℤ}
use mathlib.Core.List.{List, [], ◌∷◌}
use lib.ListN.{length, take, drop, get_or}
use lib.Seq.{drop-cons, length-take-le, get_or-take, drop-length}
use Rattle.tables.specs.Tables.{length_of, standing, start_of}
use Rattle.tables.specs.Clauses.{gone, standing_count, literal_count}
use Rattle.state.specs.declared.Counts.{Counts}
use Rattle.visits.specs.declared.Totals.{Totals}
use Rattle.visits.specs.Formed.{Counted, Formed}

-- the records of n clauses, from record i on
abbrev pub records_from : ℕ → ℕ → List ℕ → List ℕ
records_from n i c = drop (3 * i) (take (3 * n) c)

pub record Counting (n : ℕ) (c : List ℕ) (i clauses literals : ℕ) : Type 0 where
  pub within : i ≤ n
  pub stood : clauses + standing_count (records_from n i c) ≡ standing_count (take (3 * n) c)
  pub sized : literals + literal_count (records_from n i c) ≡ literal_count (take (3 * n) c)
  pub few : clauses ≤ i
  pub bounded : literals ≤ 16384 * i

pub counting_none : (n : ℕ) (c : List ℕ) → Counting n c 0 0 0
counting_none n c = record { within = omega arith; stood = omega arith; sized = omega arith; few = omega arith; bounded = omega arith }

-- one record in front
cons_dropped : (a b f : ℕ) (rs : List ℕ) → f ≡ 0 → (standing_count (a ∷ b ∷ f ∷ rs) ≡ standing_count rs) × (literal_count (a ∷ b ∷ f ∷ rs) ≡ literal_count rs)
unfolding standing_count literal_count
cons_dropped a b zero rs z = (refl, refl)
cons_dropped a b (suc f) rs z = absurd (omega (arith, z))

cons_standing : (a b f : ℕ) (rs : List ℕ) → (f ≡ 0 → ⊥) → (standing_count (a ∷ b ∷ f ∷ rs) ≡ suc (standing_count rs)) × (literal_count (a ∷ b ∷ f ∷ rs) ≡ b + literal_count rs)
unfolding standing_count literal_count
cons_standing a b zero rs d = absurd (d refl)
cons_standing a b (suc f) rs d = (refl, refl)

module _ {n : ℕ} {c : List ℕ} (C : Counted n c) (i : ℕ) (lt : i < n) where
  long : length (take (3 * n) c) ≡ 3 * n
  long = length-take-le (3 * n) c C.records

  at : (k : ℕ) → k < 3 * n → get_or (take (3 * n) c) k 0 ≡ get_or c k 0
  at k h = get_or-take (3 * n) c k 0 h

  -- the records from i on begin with record i
  record_next : records_from n i c ≡ start_of c i ∷ length_of c i ∷ standing c i ∷ records_from n (i + 1) c
  record_next =
      drop-cons (take (3 * n) c) (3 * i) 0 (omega (arith, long))
      ∙ ap (λ (l : List ℕ). get_or (take (3 * n) c) (3 * i) 0 ∷ l) (ap (λ (k : ℕ). drop k (take (3 * n) c)) (let e : suc (3 * i) ≡ 3 * i + 1 = omega arith in e) ∙ drop-cons (take (3 * n) c) (3 * i + 1) 0 (omega (arith, long)))
      ∙ ap (λ (l : List ℕ). get_or (take (3 * n) c) (3 * i) 0 ∷ get_or (take (3 * n) c) (3 * i + 1) 0 ∷ l)
      (ap (λ (k : ℕ). drop k (take (3 * n) c)) (let e : suc (3 * i + 1) ≡ 3 * i + 2 = omega arith in e) ∙ drop-cons (take (3 * n) c) (3 * i + 2) 0 (omega (arith, long)))
      ∙ (λ j. at (3 * i) (omega arith) j ∷ at (3 * i + 1) (omega arith) j ∷ at (3 * i + 2) (omega arith) j ∷ drop (let e : suc (3 * i + 2) ≡ 3 * (i + 1) = omega arith in e j) (take (3 * n) c))

  module _ {clauses literals : ℕ} (K : Counting n c i clauses literals) where
    -- a dropped clause adds nothing
    pub counting_dropped : standing c i ≡ 0 → Counting n c (i + 1) clauses literals
    counting_dropped z = record {
      within = omega arith;
      stood = omega (arith, ap standing_count record_next, (cons_dropped (start_of c i) (length_of c i) (standing c i) (records_from n (i + 1) c) z).0, K.stood);
      sized = omega (arith, ap literal_count record_next, (cons_dropped (start_of c i) (length_of c i) (standing c i) (records_from n (i + 1) c) z).1, K.sized);
      few = omega (arith, K.few);
      bounded = omega (arith, K.bounded);
    }

    pub counting_standing : (standing c i ≡ 0 → ⊥) → Counting n c (i + 1) (clauses + 1) (literals + length_of c i)
    counting_standing d = record {
      within = omega arith;
      stood = omega (arith, ap standing_count record_next, (cons_standing (start_of c i) (length_of c i) (standing c i) (records_from n (i + 1) c) d).0, K.stood);
      sized = omega (arith, ap literal_count record_next, (cons_standing (start_of c i) (length_of c i) (standing c i) (records_from n (i + 1) c) d).1, K.sized);
      few = omega (arith, K.few);
      bounded = omega (arith, K.bounded, C.sizes i lt);
    }

-- at the end nothing is left
pub counting_done : {n : ℕ} {c : List ℕ} {i clauses literals : ℕ} → Counted n c → Counting n c i clauses literals → n ≤ i
    → (clauses ≡ standing_count (take (3 * n) c)) × (literals ≡ literal_count (take (3 * n) c))
unfolding standing_count literal_count
counting_done {n} {c} {i} {clauses} {literals} C K h =
    (omega (arith, ap standing_count rest, K.stood), omega (arith, ap literal_count rest, K.sized))
  where
    rest : records_from n i c ≡ []
    rest = ap (λ (k : ℕ). drop k (take (3 * n) c)) (let e : 3 * i ≡ length (take (3 * n) c) = omega (arith, length-take-le (3 * n) c C.records, K.within, h) in e) ∙ drop-length (take (3 * n) c)

-- the records of formed tables can be counted
pub formed_counted : {v n s : ℕ} {mark : Bool} {c : List ℕ} {l w : List ℤ} → Formed v n s mark c l w → Counted n c
formed_counted F = record { number = F.number; records = omega (arith, F.records, F.number); sizes = λ i lt. omega (arith, F.rule.parts.inside i lt) }

-- ---- the counts of a call

-- counts that are those of two tables of records
pub counts_are : (n visits : ℕ) (before after : List ℕ) (b a : Totals) (c : Counts)
    → (b.clauses ≡ standing_count (take (3 * n) before)) × (b.literals ≡ literal_count (take (3 * n) before)) → (a.clauses ≡ standing_count (take (3 * n) after)) × (a.literals ≡ literal_count (take (3 * n) after))
    → (c.visits ≡ visits) × (c.clauses ≡ b.clauses - a.clauses) × (c.literals ≡ b.literals - a.literals) → c ≡ gone visits n before after
counts_are n visits before after b a c eb ea ec =
    λ i. record { visits = ec.0 i; clauses = (ec.1 ∙ (λ j. eb.0 j - ea.0 j)) i; literals = (ec.2 ∙ (λ j. eb.1 j - ea.1 j)) i }

-- no visit, and nothing gone
pub none_gone : (n : ℕ) (before : List ℕ) → record { visits = 0; clauses = 0; literals = 0 } ≡ gone 0 n before before
none_gone n before =
    let a : 0 ≡ standing_count (take (3 * n) before) - standing_count (take (3 * n) before) = omega arith in
    let b : 0 ≡ literal_count (take (3 * n) before) - literal_count (take (3 * n) before) = omega arith in
    λ i. record { visits = 0; clauses = a i; literals = b i }
