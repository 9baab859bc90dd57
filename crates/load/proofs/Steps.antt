-- What the functions of one clause leave is what the definitions of Laid.antt say. Assumes nothing.
use mathlib.Core.Path.{◌≡◌, refl, sym, ap, ◌∙◌}
use mathlib.Core.Bool.{Bool, true, false, ◌||◌}
use mathlib.Core.List.{List, [], ◌∷◌, ◌++◌, append_assoc}
use lib.Dec.{eqb}
use Prim.Native.Nat.{ℕ, zero, suc, ◌+◌, ◌-◌, ◌≤◌, ◌<◌}
use native.Mathlib.Omega.{arith}
use lib.ListN.{length, take, drop, get_or, replicate, length-append, length-replicate}
use lib.Seq.{sets, sets-eq, length-sets, length-take-le, take_at, drop_at}
use lib.IntN.{ℤ, pos}
use borrow.Rule.Slice.PartMut.{put_mid}
use Rattle.literal.specs.Literals.{Literal}
use Rattle.literal.specs.Clauses.{distinct, tautology}
use Rattle.literal.specs.Holding.{holding}
use Rattle.literal.specs.Ranged.{InClause}
use Rattle.repeats.proofs.Repeats.{distinct_short, tautology_distinct}
use Rattle.dimacs.specs.Numbers.{first_clause}
use Rattle.load.specs.Laid.{written, kept_size, flag, put_clause_record, progress, next_clause}
use Rattle.load.specs.declared.Written.{Written}
use Rattle.load.specs.declared.Progress.{Progress}

-- ---- collecting: the numbers that are left of the clause, stored from `end` on, give what all of them give from `start` on
pub record Collecting (ns : List ℤ) (at start : ℕ) (l₀ l : List ℤ) (i end : ℕ) : Type 0 where
  pub ends : end + length (first_clause (drop i ns)) ≡ start + length (first_clause (drop at ns))
  pub stores : sets l end (first_clause (drop i ns)) ≡ sets l₀ start (first_clause (drop at ns))
  pub size : length l ≡ length l₀
  pub room : (start + length (first_clause (drop at ns)) ≤ length l₀) × (start + length (first_clause (drop at ns)) ≤ 16384)

-- ---- the collected clause is lent on as a part of the literal table, and a list of the same length is put back
module _ (c l : List ℤ) (start end : ℕ) (e : end ≡ start + length c) (room : start + length c ≤ length l) where
  size : end - start ≡ length c
  size = omega (arith, e)

  stored : sets l start c ≡ (take start l ++ c) ++ drop (start + length c) l
  stored = sets-eq c l start room

  front : length (take start l) ≡ start
  front = length-take-le start l (omega arith)

  behind : drop start (sets l start c) ≡ c ++ drop (start + length c) l
  behind = ap (drop start) (stored ∙ append_assoc (take start l) c (drop (start + length c) l)) ∙ drop_at (take start l) (c ++ drop (start + length c) l) start front

  pub part_is : take (end - start) (drop start (sets l start c)) ≡ c
  part_is = (λ i. take (size i) (behind i)) ∙ take_at c (drop (start + length c) l) (length c) refl

  pub part_inside : end ≤ length (sets l start c)
  part_inside = omega (arith, e, room, length-sets l start c)

  pub part_back : (d : List ℤ) → length d ≡ length c → put_mid start (end - start) (sets l start c) d ≡ sets l start d
  part_back d same =
      let q : start + length d ≡ start + length c = omega arith in
      let past : drop (end - start) (drop start (sets l start c)) ≡ drop (start + length d) l =
      (λ i. drop (size i) (behind i)) ∙ drop_at c (drop (start + length c) l) (length c) refl ∙ ap (λ (k : ℕ). drop k l) (sym q) in
      let first : take start (sets l start c) ≡ take start l =
      ap (take start) (stored ∙ append_assoc (take start l) c (drop (start + length c) l)) ∙ take_at (take start l) (c ++ drop (start + length c) l) start front in
      (λ i. first i ++ (d ++ past i)) ∙ sym (append_assoc (take start l) d (drop (start + length d) l)) ∙ sym (sets-eq d l start (omega (arith, q, room)))

-- its literals are in range
pub literal_at : (v : ℕ) (c : List ℤ) → InClause v c → (k : ℕ) → k < length c → Literal v (get_or c k (pos 0))
unfolding InClause
literal_at v [] h k lt = absurd (omega arith)
literal_at v (x ∷ c) h zero lt = record { above = h.0; within = h.1.0 }
literal_at v (x ∷ c) h (suc k) lt = literal_at v c h.1.1 k (omega arith)

-- ---- a clause's end
pub kept_at_most : (c : Written) → kept_size c ≤ c.kept
kept_at_most c = go c.both refl
  where
    go : (t : Bool) → c.both ≡ t → kept_size c ≤ c.kept
    go true e = rw (e, kept_size) (omega arith)
    go false e = rw (e, kept_size) (omega arith)

pub next_is : (p : Progress) (c : Written) {size : ℕ} {mark : Bool} → size ≡ kept_size c → mark ≡ (p.mark || eqb c.size 0)
    → progress (p.clauses + 1) (p.start + size) (p.at + c.size + 1) mark ≡ next_clause p c
next_is p c e f = rw (e, f)

pub record_is : (t : List ℕ) (p : Progress) (c : Written) {size standing : ℕ} {t' : List ℕ} → size ≡ kept_size c → standing ≡ flag c.both
    → t' ≡ put_clause_record t p.clauses p.start size standing → t' ≡ put_clause_record t p.clauses p.start (kept_size c) (flag c.both)
record_is t p c e f g = rw (← e, ← f) g

-- ---- what a clause is, as written and without repeats
pub holding_length : (c : List ℤ) → length (holding (distinct c) c) ≡ length c
holding_length c = length-append (distinct c) (replicate (length c - length (distinct c)) (pos 0)) ∙ omega (arith, length-replicate (length c - length (distinct c)) (pos 0), distinct_short c)

pub written_is : (c : List ℤ) (start : ℕ) {end count : ℕ} {both : Bool} → end ≡ start + length c → count ≡ length (distinct c) → both ≡ tautology (distinct c)
    → ((k : ℕ) → k < length c → Literal 1024 (get_or c k (pos 0))) → record { size = end - start; kept = count; both = both } ≡ written c
written_is c start {end} e f g each =
    let n : end - start ≡ length c = omega (arith, e) in
    rw (n, f, g, tautology_distinct c (λ k h. (each k h).above))
