-- The loop that lays the clauses: what holds before each clause, and how a clause keeps it. Assumes nothing.
use mathlib.Core.Path.{◌≡◌, refl, sym, ap, ◌∙◌, subst}
use mathlib.Core.Bool.{Bool, true, false, ◌||◌, or-false, or_assoc}
use mathlib.Core.List.{List, [], ◌∷◌, ◌++◌, append_assoc, append-nil}
use Prim.Native.Nat.{ℕ, suc, ◌+◌, ◌*◌, ◌-◌, ◌≤◌, ◌<◌}
use native.Mathlib.Omega.{arith}
use native.Mathlib.Numerals.{add-one}
use lib.ListN.{length, take, drop, set, replicate, length-set, length-append}
use lib.Seq.{drop-set-lt, length-take-le, sets, sets-eq, length-sets, take_at, drop-drop}
use lib.Dec.{eqb}
use lib.IntN.{ℤ, pos}
use Rattle.literal.specs.Clauses.{distinct, tautology}
use Rattle.literal.specs.Holding.{holding}
use Rattle.literal.specs.Ranged.{InClause, InClauses, total}
use Rattle.dimacs.specs.Numbers.{first_clause, clauses_in}
use Rattle.repeats.proofs.Repeats.{distinct_short}
use Rattle.load.specs.Load.{kept_of, clause_records, literal_places, any_empty}
use Rattle.load.specs.Laid.{written, kept_size, flag, put_clause_record, progress, next_clause, Collectable, ClauseEnd, Layable, LaidBy}
use Rattle.load.specs.declared.Written.{Written}
use Rattle.load.specs.declared.Progress.{Progress}
use Rattle.load.proofs.Steps.{holding_length}

-- ---- a record
record_is : (c : List ℕ) (k start size standing : ℕ) → 3 * k + 3 ≤ length c
    → put_clause_record c k start size standing ≡ (take (3 * k) c ++ (start ∷ size ∷ standing ∷ [])) ++ drop (3 * k + 3) c
record_is c k start size standing h =
    let two : 3 * k + 2 ≡ suc (3 * k + 1) = omega arith in
    let e : put_clause_record c k start size standing ≡ sets c (3 * k) (start ∷ size ∷ standing ∷ []) = rw (two, add-one (3 * k)) in
    e ∙ sets-eq (start ∷ size ∷ standing ∷ []) c (3 * k) h

record_front : (c : List ℕ) (k start size standing : ℕ) → 3 * k + 3 ≤ length c
    → take (3 * (k + 1)) (put_clause_record c k start size standing) ≡ take (3 * k) c ++ (start ∷ size ∷ standing ∷ [])
record_front c k start size standing h =
    let p : List ℕ = take (3 * k) c ++ (start ∷ size ∷ standing ∷ []) in
    let n : length p ≡ 3 * (k + 1) = length-append (take (3 * k) c) (start ∷ size ∷ standing ∷ []) ∙ omega (arith, length-take-le (3 * k) c (omega arith)) in
    ap (take (3 * (k + 1))) (record_is c k start size standing h) ∙ take_at p (drop (3 * k + 3) c) (3 * (k + 1)) n

record_length : (c : List ℕ) (k start size standing : ℕ) → length (put_clause_record c k start size standing) ≡ length c
record_length c k start size standing = simp length-set

record_beyond : (c : List ℕ) (k start size standing : ℕ) → 3 * k + 2 < 12288 → drop 12288 (put_clause_record c k start size standing) ≡ drop 12288 c
record_beyond c k start size standing h =
    drop-set-lt 12288 (set (set c (3 * k) start) (3 * k + 1) size) (3 * k + 2) standing h
    ∙ drop-set-lt 12288 (set c (3 * k) start) (3 * k + 1) size (omega arith)
    ∙ drop-set-lt 12288 c (3 * k) start (omega arith)

record_step : (at : ℕ) (begun : List ℤ) (rest : List (List ℤ)) → clause_records at (begun ∷ rest)
    ≡ at ∷ length (kept_of begun) ∷ elim (tautology begun) [ true ↦ 0 | false ↦ 1 ] ∷ clause_records (at + length (kept_of begun)) rest
unfolding clause_records
record_step at begun rest = refl

place_step : (begun : List ℤ) (rest : List (List ℤ)) → literal_places (begun ∷ rest) ≡ kept_of begun ++ literal_places rest
unfolding literal_places
place_step begun rest = refl

join : {a size size' flag flag' end end' : ℕ} (rest : List (List ℤ)) → size ≡ size' → flag ≡ flag' → end ≡ end' → a ∷ size ∷ flag ∷ clause_records end rest ≡ a ∷ size' ∷ flag' ∷ clause_records end' rest
join rest p q r = cc

-- ---- the literals of a clause
-- what is kept of a clause takes the places that its size says
size_is : (c : List ℤ) → length (kept_of c) ≡ kept_size (written c)
size_is c = go (tautology c) refl
  where
    go : (t : Bool) → tautology c ≡ t → length (kept_of c) ≡ kept_size (written c)
    go true e = rw (e, kept_of, kept_size)
    go false e = rw (e, kept_of, kept_size)

size_short : (c : List ℤ) → kept_size (written c) ≤ length c
size_short c = go (tautology c) refl
  where
    go : (t : Bool) → tautology c ≡ t → kept_size (written c) ≤ length c
    go true e = rw (e, kept_size) (omega arith)
    go false e = rw (e, kept_size) (distinct_short c)

-- the kept literals stand behind those of the clauses before
kept_front : (c l : List ℤ) (start : ℕ) → start + length c ≤ length l → take (start + kept_size (written c)) (sets l start (holding (distinct c) c)) ≡ take start l ++ kept_of c
kept_front c l start h = go (tautology c) refl
  where
    h' : start + length (holding (distinct c) c) ≤ length l
    h' = omega (arith, h, holding_length c)

    n : length (take start l) ≡ start
    n = length-take-le start l (omega arith)

    whole : sets l start (holding (distinct c) c) ≡ (take start l ++ holding (distinct c) c) ++ drop (start + length (holding (distinct c) c)) l
    whole = sets-eq (holding (distinct c) c) l start h'

    split : (k : List ℤ) (z : List ℤ) (r : List ℤ) (m : ℕ) → length k ≡ m → take (start + m) ((take start l ++ (k ++ z)) ++ r) ≡ take start l ++ k
    split k z r m e =
        ap (take (start + m)) (ap (λ (d : List ℤ). d ++ r) (sym (append_assoc (take start l) k z)) ∙ append_assoc (take start l ++ k) z r)
        ∙ take_at (take start l ++ k) (z ++ r) (start + m) (length-append (take start l) k ∙ omega (arith, n, e))

    go : (t : Bool) → tautology c ≡ t → take (start + kept_size (written c)) (sets l start (holding (distinct c) c)) ≡ take start l ++ kept_of c
    go true e = rw (e, kept_of, kept_size) (ap (take (start + 0)) whole ∙ split [] (holding (distinct c) c) (drop (start + length (holding (distinct c) c)) l) 0 refl)
    go false e = rw (e, kept_of, kept_size) (ap (take (start + length (distinct c))) whole ∙ split (distinct c) (replicate (length c - length (distinct c)) (pos 0)) (drop (start + length (holding (distinct c) c)) l) (length (distinct c)) refl)

sets_beyond : (vs l : List ℤ) (i n : ℕ) → i + length vs ≤ n → drop n (sets l i vs) ≡ drop n l
sets_beyond [] l i n h = refl
sets_beyond (x ∷ vs) l i n h = sets_beyond vs (set l i x) (suc i) n (omega arith) ∙ drop-set-lt n l i x (omega arith)

-- ---- before a clause: those before it are laid, and the clauses that are left begin at `at`
abbrev pub left : ℕ → List ℤ → Progress → List (List ℤ)
left n ns p = clauses_in (n - p.clauses) (drop p.at ns)

pub record Laying (n : ℕ) (ns : List ℤ) (c₀ : List ℕ) (l₀ : List ℤ) (c : List ℕ) (l : List ℤ) (p : Progress) : Type 0 where
  pub number : (n ≤ 4096) × (p.clauses ≤ n)
  pub each : InClauses 1024 (left n ns p)
  pub fits : p.start + total (left n ns p) ≤ 16384
  pub reach : p.at + (total (left n ns p) + (n - p.clauses)) ≤ 20480
  -- what is laid and what is to come are what is asked for
  pub records : clause_records 0 (clauses_in n ns) ≡ take (3 * p.clauses) c ++ clause_records p.start (left n ns p)
  pub places : literal_places (clauses_in n ns) ≡ take p.start l ++ literal_places (left n ns p)
  pub marks : any_empty (clauses_in n ns) ≡ (p.mark || any_empty (left n ns p))
  -- the tables' sizes
  pub sizes : (length c ≡ length c₀) × (length l ≡ length l₀)
  pub long : (12288 ≤ length c) × (16384 ≤ length l)
  pub beyond : (drop 12288 c ≡ drop 12288 c₀) × (drop 16384 l ≡ drop 16384 l₀)

pub start_laying : {n : ℕ} {ns : List ℤ} {c : List ℕ} {l : List ℤ} → Layable n ns (length c) (length l) → Laying n ns c l c l (progress 0 0 0 false)
start_laying {n} {ns} {c} {l} h =
    let q : n - 0 ≡ n = omega arith in
    record {
      number = (h.number, omega arith);
      each = rw q h.each;
      fits = rw q (omega (arith, h.size));
      reach = rw q (omega (arith, h.size, h.number));
      records = rw q;
      places = rw q;
      marks = rw q;
      sizes = (refl, refl);
      long = (h.clause_room, h.literal_room);
      beyond = (refl, refl);
    }

-- ---- a clause
module _ {n : ℕ} {ns : List ℤ} {c₀ : List ℕ} {l₀ : List ℤ} {c : List ℕ} {l : List ℤ} {p : Progress} (L : Laying n ns c₀ l₀ c l p) (more : p.clauses < n) where
  -- the clause
  abbrev now : List ℤ
  now = first_clause (drop p.at ns)

  abbrev next : Progress
  next = next_clause p (written now)

  left_is : left n ns p ≡ now ∷ left n ns next
  unfolding clauses_in
  left_is =
      let q : n - p.clauses ≡ suc (n - (p.clauses + 1)) = omega arith in
      let e : p.at + suc (length now) ≡ p.at + length now + 1 = omega arith in
      ap (λ (k : ℕ). clauses_in k (drop p.at ns)) q ∙ rw (drop-drop (suc (length now)) p.at ns, e)

  now_in : InClause 1024 now × InClauses 1024 (left n ns next)
  unfolding InClauses
  now_in = subst (InClauses 1024) left_is L.each

  sum : total (left n ns p) ≡ length now + total (left n ns next)
  unfolding total
  sum = ap total left_is

  pub collectable : Collectable ns p.at p.start (length l)
  collectable = record {
    ranged = now_in.0;
    room = omega (arith, L.fits, L.long.1, sum);
    small = (omega (arith, L.reach), omega (arith, L.fits, sum));
  }

  pub ending : ClauseEnd (length c) p (written now)
  ending = record {
    room = omega (arith, L.number.0, L.long.0);
    number = omega (arith, L.number.0);
    small = (omega (arith, L.reach), (omega (arith, L.fits), (omega (arith, L.fits, sum), omega (arith, L.fits, sum, distinct_short now))));
  }

  abbrev l' : List ℤ
  l' = sets l p.start (holding (distinct now) now)

  abbrev c' : List ℕ
  c' = put_clause_record c p.clauses p.start (kept_size (written now)) (flag (tautology now))

  pub lay_clause : Laying n ns c₀ l₀ c' l' next
  lay_clause =
      let k : ℕ = p.clauses in
      let start : ℕ = p.start in
      let rest : List (List ℤ) = left n ns next in
      record {
        number = (L.number.0, omega arith);
        each = now_in.1;
        fits = omega (arith, L.fits, sum, size_short now);
        reach = omega (arith, L.reach, sum);
        records = L.records
            ∙ ap (λ (d : List (List ℤ)). take (3 * k) c ++ clause_records start d) left_is
            ∙ ap (λ (d : List ℕ). take (3 * k) c ++ d) (record_step start now rest ∙ join rest (size_is now) refl (ap (λ (i : ℕ). start + i) (size_is now)))
            ∙ sym (append_assoc (take (3 * k) c) (start ∷ kept_size (written now) ∷ flag (tautology now) ∷ []) (clause_records (start + kept_size (written now)) rest))
            ∙ ap (λ (d : List ℕ). d ++ clause_records (start + kept_size (written now)) rest) (sym (record_front c k start (kept_size (written now)) (flag (tautology now)) ending.room));
        places = L.places
            ∙ ap (λ (d : List (List ℤ)). take start l ++ literal_places d) left_is
            ∙ ap (λ (d : List ℤ). take start l ++ d) (place_step now rest)
            ∙ sym (append_assoc (take start l) (kept_of now) (literal_places rest))
            ∙ ap (λ (d : List ℤ). d ++ literal_places rest) (sym (kept_front now l start collectable.room));
        marks = L.marks ∙ ap (λ (d : List (List ℤ)). p.mark || any_empty d) left_is ∙ sym (or_assoc p.mark (eqb (length now) 0) (any_empty rest));
        sizes = (record_length c k start (kept_size (written now)) (flag (tautology now)) ∙ L.sizes.0, length-sets l start (holding (distinct now) now) ∙ L.sizes.1);
        long = (rw (record_length c k start (kept_size (written now)) (flag (tautology now))) L.long.0, rw (length-sets l start (holding (distinct now) now)) L.long.1);
        beyond = (
          record_beyond c k start (kept_size (written now)) (flag (tautology now)) (omega (arith, L.number.0)) ∙ L.beyond.0,
          sets_beyond (holding (distinct now) now) l start 16384 (omega (arith, holding_length now, L.fits, sum)) ∙ L.beyond.1,
        );
      }

  -- as the functions of a clause leave it
  module _ {w : Written} (e : w ≡ written now) where
    pub ending_of : ClauseEnd (length c) p w
    ending_of = subst (ClauseEnd (length c) p) (sym e) ending

    pub lay_next : {l'' : List ℤ} {p'' : Progress} {c'' : List ℕ} → l'' ≡ l' → (p'' ≡ next_clause p w) × (c'' ≡ put_clause_record c p.clauses p.start (kept_size w) (flag w.both)) → Laying n ns c₀ l₀ c'' l'' p''
    lay_next f g = rw (g.0, g.1, f, e) lay_clause

    pub lay_counts : {p'' : Progress} → p'' ≡ next_clause p w → p''.clauses ≡ p.clauses + 1
    lay_counts g = ap (λ (x : Progress). x.clauses) g

-- ---- no clause is left
pub laid_all : {n : ℕ} {ns : List ℤ} {c₀ : List ℕ} {l₀ : List ℤ} {c : List ℕ} {l : List ℤ} {p : Progress} → Laying n ns c₀ l₀ c l p → n ≤ p.clauses → LaidBy (clauses_in n ns) c₀ l₀ c l p
unfolding clauses_in clause_records literal_places
laid_all {n} {ns} {c₀} {l₀} {c} {l} {p} L h =
    let z : n - p.clauses ≡ 0 = omega arith in
    let none : left n ns p ≡ [] = ap (λ (k : ℕ). clauses_in k (drop p.at ns)) z in
    record {
      within = (omega (arith, L.number.0, L.number.1), omega (arith, L.fits));
      records = sym (L.records ∙ ap (λ (d : List (List ℤ)). take (3 * p.clauses) c ++ clause_records p.start d) none ∙ append-nil (take (3 * p.clauses) c));
      places = sym (L.places ∙ ap (λ (d : List (List ℤ)). take p.start l ++ literal_places d) none ∙ append-nil (take p.start l));
      marks = sym (L.marks ∙ ap (λ (d : List (List ℤ)). p.mark || any_empty d) none ∙ or-false p.mark);
      sizes = L.sizes;
      beyond = L.beyond;
    }
