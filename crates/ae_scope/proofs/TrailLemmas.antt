-- Changes of groups, noted and undone.
use Rattle.std.proofs.Common.{◌≡◌, inl, inr, ℕ, ◌<◌, ◌≤◌, zero, suc, nat_eq, ◌++◌, ◌∷◌, [], List, length, ◌+◌}
use Rattle.std.proofs.Common.{drop, set, get_or, Option, None, Some, Bool, true, false, ◌||◌, refl, sym, ap}
use Rattle.std.proofs.Common.{◌∙◌, arith}
use Rattle.std.specs.Option.{is_some}
use Rattle.std.proofs.Math.Seq.{drop-length, drop-nil}
use Rattle.std.proofs.lemmas.List.{drop-append-le, drop_all, length-append, get_or-set_same, get_or-set_other}
use Rattle.std.proofs.lemmas.List.Folds.{list_any-append}
use Rattle.ae_groups.specs.declared.context.GroupContext.{GroupContext}
use Rattle.ae_groups.specs.Contexts.{known_groups, no_groups}
use Rattle.ae_rules.specs.Groups.{Groups}
use Rattle.std.proofs.lemmas.Bool.{cases_eq, cases_lt}
use Rattle.std.proofs.lemmas.Bool.Decides.{nat_tests}
use Rattle.ae_rules.specs.declared.held.GroupPerm.{GroupPerm}
use Rattle.ae_rules.specs.Lookups.{has_name}
use Rattle.ae_scope.specs.declared.slot.GroupChange.{GroupChange}
use Rattle.ae_scope.specs.Trail.{Listed, Rising, groups_before}

-- two parts of a trail are undone one after the other
pub groups_back_append : (cs ds : List GroupChange) (gs : List (Option GroupPerm))
    → groups_before (cs ++ ds) gs ≡ groups_before cs (groups_before ds gs)
groups_back_append [] ds gs = refl
groups_back_append (c ∷ cs) ds gs =
    ap (λ (hs : List (Option GroupPerm)). set hs c.name c.before) (groups_back_append cs ds gs)

-- what was there before is put back
set_back : (gs : List (Option GroupPerm)) (x : ℕ) (q : Option GroupPerm) → set (set gs x q) x (get_or gs x None) ≡ gs
set_back [] x q = refl
set_back (g ∷ gs) zero q = refl
set_back (g ∷ gs) (suc x) q = ap (λ (hs : List (Option GroupPerm)). g ∷ hs) (set_back gs x q)

-- where a change is noted, undoing leads to what was there before it
pub back_from_noted : (ts us : List GroupChange) (gs hs : List (Option GroupPerm)) (x : ℕ) (q : Option GroupPerm)
    → us ≡ ts ++ record { name = x; before = get_or gs x None } ∷ [] → hs ≡ set gs x q
    → (n : ℕ) → n ≤ length ts → groups_before (drop n us) hs ≡ groups_before (drop n ts) gs
back_from_noted ts us gs hs x q e f n l =
    ap (λ (v : List GroupChange). groups_before (drop n v) hs) e
    ∙ ap (λ (v : List GroupChange). groups_before v hs) (drop-append-le n ts _ l)
    ∙ groups_back_append (drop n ts) _ hs
    ∙ ap (groups_before (drop n ts)) (ap (λ (v : List (Option GroupPerm)). set v x (get_or gs x None)) f
    ∙ set_back gs x q)

-- ---- the list of the known groups

-- where no group is known, any list has all that are
pub none_are_listed : (c : GroupContext) (xs : List ℕ) → known_groups c ≡ no_groups → Listed c.perms.items xs
none_are_listed c xs e g h = absurd (let f : false ≡ true = sym (ap (λ (gs : Groups). is_some (gs g)) e) ∙ h in cc)

other_name : (x g : ℕ) → (g ≡ x → ⊥) → nat_eq x g ≡ false
other_name x g n = grind (arith, nat_tests, n)

-- a group in the list gets another permission
pub listed_as_set : (gs hs : List (Option GroupPerm)) (xs : List ℕ) (x : ℕ) (q : Option GroupPerm) → hs ≡ set gs x q
    → has_name xs x ≡ true → Listed gs xs → Listed hs xs
listed_as_set gs hs xs x q e k h g i = elim (cases_eq g x) [
  | inl s ↦ ap (has_name xs) s ∙ k
  | inr n ↦ h g (sym (ap is_some (ap (λ (ps : List (Option GroupPerm)). get_or ps g None) e
      ∙ get_or-set_other gs x g q None n)) ∙ i)
]

without_other : (xs ys : List ℕ) (x g : ℕ) → ys ≡ xs ++ x ∷ [] → (g ≡ x → ⊥) → has_name ys g ≡ true
    → has_name xs g ≡ true
without_other xs ys x g l n k =
    by_rest (has_name xs g) (sym (ap (λ (zs : List ℕ). has_name zs g) l
    ∙ list_any-append (λ (y : ℕ). nat_eq y g) xs (x ∷ [])
    ∙ ap (λ (b : Bool). has_name xs g || (b || false)) (other_name x g n)) ∙ k)
  where
    by_rest : (b : Bool) → (b || (false || false)) ≡ true → b ≡ true
    by_rest true e = refl
    by_rest false e = e

-- the last of the list is forgotten
pub listed_without_last : (gs hs : List (Option GroupPerm)) (xs ys : List ℕ) (x : ℕ) → ys ≡ xs ++ x ∷ []
    → hs ≡ set gs x None → x < length gs → Listed gs ys → Listed hs xs
listed_without_last gs hs xs ys x l e w h g i = elim (cases_eq g x) [
  | inl s ↦ absurd (let f : false ≡ true = sym (ap is_some (ap (λ (ps : List (Option GroupPerm)). get_or ps g None) e
      ∙ ap (λ (y : ℕ). get_or (set gs x None) y None) s ∙ get_or-set_same gs x None None w)) ∙ i in cc)
  | inr n ↦ (let k : has_name ys g ≡ true = h g (sym (ap is_some
      (ap (λ (ps : List (Option GroupPerm)). get_or ps g None) e ∙ get_or-set_other gs x g None None n))
      ∙ i) in without_other xs ys x g l n k)
]

-- ---- groups become known and never unknown

-- without changes
pub nothing_has_risen : (ts : List GroupChange) (gs : List (Option GroupPerm)) → ts ≡ [] → Rising ts gs
nothing_has_risen ts gs e m n g l h =
    ap (λ (v : List GroupChange). is_some (get_or (groups_before v gs) g None)) (at_none n) ∙ sym
    (ap (λ (v : List GroupChange). is_some (get_or (groups_before v gs) g None)) (at_none m)) ∙ h
  where
    at_none : (k : ℕ) → drop k ts ≡ []
    at_none k = ap (drop k) e ∙ drop-nil k

-- what is noted of a change
pub noted_as_before : (ts us : List GroupChange) (gs : List (Option GroupPerm)) (x : ℕ) (o : Option GroupPerm)
    → us ≡ ts ++ record { name = x; before = o } ∷ [] → o ≡ get_or gs x None
    → us ≡ ts ++ record { name = x; before = get_or gs x None } ∷ []
noted_as_before ts us gs x o e f = e ∙ ap (λ (q : Option GroupPerm). ts ++ record { name = x; before = q } ∷ []) f

still_known : (gs : List (Option GroupPerm)) (x : ℕ) (q : GroupPerm) (g : ℕ) → x < length gs
    → is_some (get_or gs g None) ≡ true → is_some (get_or (set gs x (Some q)) g None) ≡ true
still_known gs x q g w h = elim (cases_eq g x) [
  | inl s ↦ ap is_some (ap (λ (y : ℕ). get_or (set gs x (Some q)) y None) s ∙ get_or-set_same gs x (Some q) None w)
  | inr n ↦ ap is_some (get_or-set_other gs x g (Some q) None n) ∙ h
]

-- one more change, after which a group is known
pub rising_after_noted : (ts us : List GroupChange) (gs hs : List (Option GroupPerm)) (x : ℕ) (q : GroupPerm)
    → us ≡ ts ++ record { name = x; before = get_or gs x None } ∷ [] → hs ≡ set gs x (Some q) → x < length gs
    → Rising ts gs → Rising us hs
rising_after_noted ts us gs hs x q e f w r m n g l h = elim (cases_lt (length ts) n) [
  | inr a ↦ same n g a (r m n g l (sym (same_now m g (omega (arith, a, l))) ∙ h))
  | inl a ↦ elim (cases_lt (length ts) m) [
    | inl b ↦ at_end n g a ∙ sym (at_end m g b) ∙ h
    | inr b ↦ at_end n g a ∙ ap (λ (ps : List (Option GroupPerm)). is_some (get_or ps g None)) f
        ∙ still_known gs x q g w (sym (ap (λ (v : List GroupChange). is_some (get_or (groups_before v gs) g None))
        (drop-length ts)) ∙ r m (length ts) g b (sym (same_now m g b) ∙ h))
  ]
]
  where
    same_now : (n g : ℕ) → n ≤ length ts → is_some (get_or (groups_before (drop n us) hs) g None)
        ≡ is_some (get_or (groups_before (drop n ts) gs) g None)
    same_now n g a = ap (λ (ps : List (Option GroupPerm)). is_some (get_or ps g None))
        (back_from_noted ts us gs hs x (Some q) e f n a)

    same : (n g : ℕ) → n ≤ length ts → is_some (get_or (groups_before (drop n ts) gs) g None) ≡ true
        → is_some (get_or (groups_before (drop n us) hs) g None) ≡ true
    same n g a h = same_now n g a ∙ h

    longer : length us ≡ length ts + 1
    longer = ap length e ∙ length-append ts _

    at_end : (n g : ℕ) → length ts < n → is_some (get_or (groups_before (drop n us) hs) g None)
        ≡ is_some (get_or hs g None)
    at_end n g a = ap (λ (v : List GroupChange). is_some (get_or (groups_before v hs) g None))
        (drop_all n us (omega (arith, longer)))

-- the last change undone
pub groups_undone : (ts us vs : List GroupChange) (c : GroupChange) (gs hs : List (Option GroupPerm))
    → ts ≡ us ++ c ∷ [] → vs ≡ us → hs ≡ set gs c.name c.before → (n : ℕ) → n < length ts
    → groups_before (drop n vs) hs ≡ groups_before (drop n ts) gs
groups_undone ts us vs c gs hs e k f n l =
    let m : n ≤ length us = omega (arith, ap length e, length-append us (c ∷ [])) in
    ap (λ (v : List GroupChange). groups_before (drop n v) hs) k ∙ ap (groups_before (drop n us)) f
    ∙ sym (ap (λ (v : List GroupChange). groups_before (drop n v) gs) e
    ∙ ap (λ (v : List GroupChange). groups_before v gs) (drop-append-le n us (c ∷ []) m)
    ∙ groups_back_append (drop n us) (c ∷ []) gs)

-- with one change less
pub rising_after_undone : (ts us : List GroupChange) (c : GroupChange) (gs hs : List (Option GroupPerm))
    → ts ≡ us ++ c ∷ [] → hs ≡ set gs c.name c.before → Rising ts gs → Rising us hs
rising_after_undone ts us c gs hs e f r m n g l h = elim (cases_lt (length us) n) [
  | inr a ↦ (state n g a ∙ r m n g l (sym (state m g (omega (arith, a, l))) ∙ h))
  | inl a ↦ (at_end n g a ∙ elim (cases_lt (length us) m) [
    | inl b ↦ sym (at_end m g b) ∙ h
    | inr b ↦ state (length us) g (omega arith) ∙ r m (length us) g b (sym (state m g b) ∙ h)
  ])
]
  where
    state : (n g : ℕ) → n ≤ length us → is_some (get_or (groups_before (drop n us) hs) g None)
        ≡ is_some (get_or (groups_before (drop n ts) gs) g None)
    state n g a = ap (λ (ps : List (Option GroupPerm)). is_some (get_or ps g None))
        (groups_undone ts us us c gs hs e refl f n (omega (arith, a, ap length e, length-append us (c ∷ []))))

    at_end : (n g : ℕ) → length us < n → is_some (get_or (groups_before (drop n us) hs) g None)
        ≡ is_some (get_or (groups_before (drop (length us) us) hs) g None)
    at_end n g a = ap (λ (v : List GroupChange). is_some (get_or (groups_before v hs) g None))
        (drop_all n us (omega (arith, a)) ∙ sym (drop-length us))

-- each group that is known after a change is undone is in the list
pub listed_undone : (ts us : List GroupChange) (c : GroupChange) (gs hs : List (Option GroupPerm)) (xs ys : List ℕ)
    → ts ≡ us ++ c ∷ [] → hs ≡ set gs c.name c.before → c.name < length gs → Rising ts gs
    → ((g : ℕ) → nat_eq c.name g ≡ false → has_name ys g ≡ has_name xs g)
    → (is_some c.before ≡ true → ys ≡ xs) → Listed gs xs → Listed hs ys
listed_undone ts us c gs hs xs ys e f w r others same h g i = elim (cases_eq g c.name) [
  | inr n ↦ others g (other_name c.name g n) ∙ h g (sym (ap is_some (there g
      ∙ get_or-set_other gs c.name g c.before None n)) ∙ i)
  | inl s ↦ (let b : is_some c.before ≡ true = sym (ap is_some (there g
      ∙ ap (λ (y : ℕ). get_or (set gs c.name c.before) y None) s
      ∙ get_or-set_same gs c.name c.before None w)) ∙ i in
      ap (λ (zs : List ℕ). has_name zs g) (same b) ∙ h g (known_before g i))
]
  where
    there : (g : ℕ) → get_or hs g None ≡ get_or (set gs c.name c.before) g None
    there g = ap (λ (ps : List (Option GroupPerm)). get_or ps g None) f

    known_before : (g : ℕ) → is_some (get_or hs g None) ≡ true → is_some (get_or gs g None) ≡ true
    known_before g i =
        sym (ap (λ (v : List GroupChange). is_some (get_or (groups_before v gs) g None)) (drop-length ts))
        ∙ r (length us) (length ts) g (omega (arith, ap length e, length-append us (c ∷ [])))
        (sym (ap (λ (ps : List (Option GroupPerm)). is_some (get_or ps g None))
        (sym (ap (λ (v : List GroupChange). groups_before v hs) (drop-length us))
        ∙ groups_undone ts us us c gs hs e refl f (length us)
        (omega (arith, ap length e, length-append us (c ∷ []))))) ∙ i)
