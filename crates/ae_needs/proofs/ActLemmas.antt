-- A judged statement that has no block and calls no method goes alike from states that agree on what it uses.
use Rattle.std.proofs.Common.{◌≡◌, refl, ap, ℕ, Bool, true, false}
use Rattle.std.proofs.Common.{List, [], ◌∷◌, Some}
use Rattle.std.specs.Prelude.{is_some, ⊤}
use Rattle.std.specs.Prelude as prelude
use Rattle.std.proofs.lemmas.Bool.{or_right}
use Rattle.ae_text.specs.declared.refusal.Spot.{Spot}
use Rattle.ae_text.specs.declared.refusal.Rule.TheVariants as rule
use Rattle.ae_tree.specs.declared.tree.Path.{Path}
use Rattle.ae_tree.specs.declared.tree.Ty.{Ty}
use Rattle.ae_tree.specs.declared.form.Form.TheVariants as f
use Rattle.ae_tree.specs.Form.{form}
use Rattle.ae_tree.specs.Names.{io}
use Rattle.ae_tree.specs.Plain.{Code, Definition, Expression}
use Rattle.ae_tree.specs.Plain.{Declares, Assigns, Stores, StoresAt, Calls, Chooses, ChoosesElse, Repeats}
use Rattle.ae_tree.specs.Plain.{Groups, Splits, Locks, Freezes, Shares, Prints, PrintsText, Asserts, Returns}
use Rattle.ae_rules.specs.declared.uses.Resource.{Resource}
use Rattle.ae_rules.specs.declared.uses.Resource.TheVariants as resource
use Rattle.ae_rules.specs.declared.uses.Mode.TheVariants as mode
use Rattle.ae_rules.specs.Verdict.{Holds, require, found}
use Rattle.ae_rules.specs.Forms.{is_ints}
use Rattle.ae_rules.specs.Context.{Context, with_name_moved}
use Rattle.ae_rules.specs.Context.{access, may_change}
use Rattle.ae_rules.specs.Walks.{Place, walk, owner, write_access, owner_write_access}
use Rattle.ae_rules.specs.Expressions.{expression_spot, judge_value, is_value}
use Rattle.ae_rules.specs.Into.{into}
use Rattle.ae_rules.specs.Statements.{judge_store, judge_store_at}
use Rattle.ae_rules.specs.Statements.{judge_return, prints}
use Rattle.ae_rules.specs.Edges.{Uses}
use Rattle.ae_rules.specs.Uses.{◌∪◌, of_judged, write_use, whole_group, write_uses}
use Rattle.ae_rules.specs.Uses.{value_uses, into_uses, store_uses, return_uses, statement_uses}
use Rattle.ae_semantics.specs.Values.{Val, OfInt, OfBool, Null, Owned, Member, Array, Store}
use Rattle.ae_semantics.specs.Places.{Outcome, Fine, ◌>>=◌, there, Bound, State, store_of}
use Rattle.ae_semantics.specs.Places.{OpenedObject, write_field, write_tree, ObjectField, slot, reach}
use Rattle.ae_semantics.specs.Expressions.{number, truth, value, number_of, truth_of, numbers, index}
use Rattle.ae_semantics.specs.Equations.{one-Declares, one-Assigns, one-Stores, one-StoresAt, one-Groups, one-Freezes}
use Rattle.ae_semantics.specs.Equations.{one-Shares, one-Prints, one-PrintsText, one-Asserts, one-Returns}
use Rattle.ae_semantics.specs.Observations.{Seen, Notes}
use Rattle.ae_semantics.specs.Runs.{Run, outcome_given, Where}
use Rattle.ae_semantics.specs.Calls.{without_moved}
use Rattle.ae_semantics.specs.Meaning.{name_moved, stored, stored_at, frozen, shared_value}
use Rattle.ae_semantics.specs.Meaning.{shares_into, printed_value, prints_piece, asserts, result_moved, returns_value}
use Rattle.ae_needs.specs.Agree.{Agree, with_used, GoAlike}
use Rattle.ae_needs.specs.Laws.{ActsReadBy, ActsReadWhatTheyUse}
use Rattle.ae_needs.proofs.AgreeLemmas.{AllIn, in_left, in_right, in_held, in_there, in_local, in_group}
use Rattle.ae_needs.proofs.AgreeLemmas.{agree_on, bound_keeps, moved_keeps, members_keep, result_keeps}
use Rattle.ae_needs.proofs.AlikeLemmas.{Alike, then_alike, from_one, from_same, prints_nothing, alike_so}
use Rattle.ae_needs.proofs.AlikeLemmas.{from_outcomes, does_alike}
use Rattle.ae_needs.proofs.WalkLemmas.{ReachesAlike, written_alike, slot_same, slot_on}
use Rattle.ae_needs.proofs.ValueLemmas.{Known, value_alike, form_alike, into_alike}
use Rattle.ae_needs.proofs.WriteLemmas.{store_same, write_alike}
use Rattle.ae_needs.proofs.RightLemmas.{owner_alike, set_alike}
use Rattle.ae_needs.proofs.SetLemmas.{group_is_new, declared_alike, assigned_so}
use Rattle.ae_needs.proofs.NewLemmas.{UseLaws, plain_in, used_in}
use Rattle.ae_needs.proofs.NewLemmas.{unknown_agrees}
use Rattle.ae_needs.proofs.from_rules.PathLemmas.{first_holds}
use Rattle.ae_needs.proofs.from_rules.SeenLemmas.{found_is}

-- ---- writes

stored_alike : (on : Resource → Bool) (p : Code) (c d : Context) (s t : State) → Known on p c s t → (path : Path)
    (e : Expression) → judge_store p c path e (expression_spot e) ≡ Holds d → AllIn on (store_uses p c path e)
    → Alike (Agree on) (stored p path e s) (stored p path e t)
stored_alike on p c d s t k path e h i =
    let a = first_holds (walk p c path) _ d h in
    let w : Place = a.0 in
    let b = first_holds (owner_write_access p c path) _ d a.2 in
    let q = first_holds (into p c w.form e) _ d b.2 in
    let goes : Uses = of_judged (walk p c path) (λ (w : Place). into_uses p c w.form e) in
    let r : ReachesAlike on p s t (owner path) = owner_alike on p c s t k path b.0 b.1
    (in_left on (write_uses p c (owner path)) goes i) in
    from_same (Agree on) (value p s e) (value p t e)
    (λ v. slot p s path >>= λ x. write_field s x.object x.part.number v
    >>= λ y. Fine (without_moved (name_moved x.part.form e) y))
    (λ v. slot p t path >>= λ x. write_field t x.object x.part.number v
    >>= λ y. Fine (without_moved (name_moved x.part.form e) y))
    (into_alike on p c s t k w.form e q.0 q.1
    (in_held on (walk p c path) (λ (w : Place). into_uses p c w.form e) w a.1
    (in_right on (write_uses p c (owner path)) goes i)))
    (λ v z. from_same (Agree on) (slot p s path) (slot p t path)
    (λ x. write_field s x.object x.part.number v >>= λ y. Fine (without_moved (name_moved x.part.form e) y))
    (λ x. write_field t x.object x.part.number v >>= λ y. Fine (without_moved (name_moved x.part.form e) y))
    (slot_same on p s t path r)
    (λ (x : ObjectField) y. then_alike (Agree on) (Agree on) (write_field s x.object x.part.number v)
    (write_field t x.object x.part.number v)
    (λ u. Fine (without_moved (name_moved x.part.form e) u)) (λ u. Fine (without_moved (name_moved x.part.form e) u))
    (write_alike on s t x.object.at.base _ v (slot_on on p s t path r x y) k.agree)
    (λ u l j. moved_keeps on (name_moved x.part.form e) u l j)))

stored_at_alike : (on : Resource → Bool) (p : Code) (c d : Context) (s t : State) → Known on p c s t → (path : Path)
    (j e : Expression) → judge_store_at p c path j e ≡ Holds d
    → AllIn on (write_uses p c path ∪ value_uses p c j ∪ value_uses p c e)
    → Alike (Agree on) (stored_at p path j e s) (stored_at p path j e t)
stored_at_alike on p c d s t k path j e h i =
    let a = first_holds (walk p c path) _ d h in
    let w : Place = a.0 in
    let b = first_holds (require (is_ints w.form) rule.TypeMismatch path.root.at) _ d a.2 in
    let y = first_holds (write_access c path.root.at w.held) _ d b.2 in
    let q = first_holds (access c path.root.at w.held) (λ _. require (may_change w.held) rule.NeedsUnique path.root.at)
    y.0 y.1 in
    let u = first_holds (is_value p c f.Int j) _ d y.2 in
    let v = first_holds (is_value p c f.Int e) (λ _. Holds c) d u.2 in
    let rest : AllIn on (value_uses p c j ∪ value_uses p c e) = in_right on (write_uses p c path)
    (value_uses p c j ∪ value_uses p c e) i in
    let r : ReachesAlike on p s t path = written_alike on p c s t path w path.root.at q.0 k.fits k.agree a.1 q.1
    (in_left on (write_uses p c path) (value_uses p c j ∪ value_uses p c e) i) in
    from_same (Agree on) (number_of p s j) (number_of p t j) _ _
    (ap (λ (o : Outcome Val). o >>= number) (form_alike on p c s t k j f.Int u.0 u.1
    (in_left on (value_uses p c j) (value_uses p c e) rest)))
    (λ n _. from_same (Agree on) (number_of p s e) (number_of p t e) _ _
    (ap (λ (o : Outcome Val). o >>= number) (form_alike on p c s t k e f.Int v.0 v.1
    (in_right on (value_uses p c j) (value_uses p c e) rest)))
    (λ m _. from_same (Agree on) (reach p s path) (reach p t path)
    (λ o. numbers o.tree >>= λ ns. index ns n >>= λ l. write_tree s o (Array (prelude.set ns l m)))
    (λ o. numbers o.tree >>= λ ns. index ns n >>= λ l. write_tree t o (Array (prelude.set ns l m))) r.same
    (λ (o : OpenedObject) z. from_one (Agree on) (numbers o.tree)
    (λ ns. index ns n >>= λ l. write_tree s o (Array (prelude.set ns l m)))
    (λ ns. index ns n >>= λ l. write_tree t o (Array (prelude.set ns l m)))
    (λ ns _. from_one (Agree on) (index ns n) (λ l. write_tree s o (Array (prelude.set ns l m)))
    (λ l. write_tree t o (Array (prelude.set ns l m)))
    (λ l _. write_alike on s t o.at.base o.at.fields (Owned (Array (prelude.set ns l m))) (r.stands o z)
    k.agree)))))

-- ---- `freeze` and `share`

frozen_alike : (on : Resource → Bool) (s t : State) (x : ℕ) → on (resource.Local x) ≡ true → Agree on s t
    → Alike (Agree on) (frozen x s) (frozen x t)
frozen_alike on s t x i a = from_same (Agree on) (there (s.locals x)) (there (t.locals x)) _ _ (ap there (a.locals x i))
    (λ (b : Bound) e. bound_keeps on s t x _ a)

shared_value_alike : (on : Resource → Bool) (s t : State) (x g : ℕ) (b : Bound) (v : Val) (st : Store)
    → on (resource.Group g) ≡ true → Agree on s t
    → Alike (Agree on) (shared_value x g b v s st) (shared_value x g b v t st)
shared_value_alike on s t x g b (OfInt n) st i a = tt
shared_value_alike on s t x g b (OfBool n) st i a = tt
shared_value_alike on s t x g b Null st i a = bound_keeps on s t x _ a
shared_value_alike on s t x g b (Owned y) st i a = bound_keeps on _ _ x _ (members_keep on s t g _ i a)
shared_value_alike on s t x g b (Member n) st i a = tt

shared_alike : (on : Resource → Bool) (s t : State) (x g : ℕ) → on (resource.Local x) ≡ true
    → on (resource.Group g) ≡ true → Agree on s t → Alike (Agree on) (shares_into x g s) (shares_into x g t)
shared_alike on s t x g i j a = from_same (Agree on) (there (s.locals x)) (there (t.locals x))
    (λ b. store_of s g >>= shared_value x g b b.value s) (λ b. store_of t g >>= shared_value x g b b.value t)
    (ap there (a.locals x i))
    (λ (b : Bound) e. from_same (Agree on) (store_of s g) (store_of t g) (shared_value x g b b.value s)
    (shared_value x g b b.value t) (store_same on s t g j a)
    (λ st _. shared_value_alike on s t x g b b.value st j a))

-- ---- `return`

returned_alike : (on : Resource → Bool) (p : Code) (m : Definition) (c d : Context) (s t : State) → Known on p c s t
    → (e : Expression) (at : Spot) → judge_return p m c e at ≡ Holds d → AllIn on (return_uses p m c e)
    → Alike (Agree on) (returns_value p m e s) (returns_value p m e t)
returned_alike on p m c d s t k e at h i =
    let a = first_holds (found m.result rule.TypeMismatch at) _ d h in
    let b = first_holds (into p c (form a.0) e) (λ name. Holds (with_name_moved name c)) d a.2 in
    let uses : AllIn on (into_uses p c (form a.0) e) = in_there on m.result (λ (y : Ty). into_uses p c (form y) e) a.0
    (found_is m.result rule.TypeMismatch at a.0 a.1) i in
    from_same (Agree on) (value p s e) (value p t e) _ _ (into_alike on p c s t k (form a.0) e b.0 b.1 uses)
    (λ v _. result_keeps on (without_moved (result_moved m e) s) (without_moved (result_moved m e) t) (Some v)
    (moved_keeps on (result_moved m e) s t k.agree))

-- ---- what is printed and tested

printed_alike : {W : Type 0} (on : Resource → Bool) (p : Code) (here : Where) (at : Spot) (e : Expression)
    (s t : State) (n k : Notes W) → value p s e ≡ value p t e → Agree on s t
    → GoAlike (Agree on) n k (outcome_given (value p s e >>= printed_value) at n (λ bytes. prints_piece here bytes s n))
    (outcome_given (value p t e >>= printed_value) at k (λ bytes. prints_piece here bytes t k))
printed_alike on p here at e s t n k h a = from_outcomes (Agree on) (value p s e >>= printed_value)
    (value p t e >>= printed_value) at n k (λ bytes. prints_piece here bytes s n)
    (λ bytes. prints_piece here bytes t k) (ap (λ (o : Outcome Val). o >>= printed_value) h)
    (λ bytes _. (a, record { pieces = record { path = here.path; bytes = bytes } ∷ []; first = refl; second = refl }))

asserted_alike : {W : Type 0} (on : Resource → Bool) (p : Code) (at : Spot) (e : Expression)
    (s t : State) (n k : Notes W) → value p s e ≡ value p t e → Agree on s t
    → GoAlike (Agree on) n k (outcome_given (truth_of p s e) at n (λ test. asserts at test s n))
    (outcome_given (truth_of p t e) at k (λ test. asserts at test t k))
asserted_alike on p at e s t n k h a = from_outcomes (Agree on) (truth_of p s e) (truth_of p t e) at n k
    (λ test. asserts at test s n) (λ test. asserts at test t k) (ap (λ (o : Outcome Val). o >>= truth) h)
    (λ test _. by_test test)
  where
    by_test : (test : Bool) → GoAlike (Agree on) n k (asserts at test s n) (asserts at test t k)
    by_test true = (a, prints_nothing n.log k.log)
    by_test false = (refl, prints_nothing n.log k.log)

-- ---- statements

-- A statement whose uses are in the set leaves states that agree on them too.
pub plainly : {W : Type 0} (on : Resource → Bool) (u : Uses) (n k : Notes W) (r q : Run W) → AllIn on u
    → GoAlike (Agree on) n k r q → GoAlike (Agree (with_used u on)) n k r q
plainly on u n k r q i h = alike_so (Agree on) (Agree (with_used u on)) n k r q h
    (λ s t a. agree_on on (with_used u on) s t (used_in on u i) a)

-- With each machine a judged statement that has no block and calls no method goes alike.
pub acts_read : UseLaws → (W : Type 0) → ActsReadBy W
acts_read laws W m below here at (Declares ty x e) d o h on s t n k y z i a =
    rw (one-Declares m below here at ty x e s n, one-Declares m below here at ty x e t k)
    (declared_alike laws on m below here d at ty x e s t n k h i
    (λ r j l more v. set_alike on more m below here here.context r at x.name (form ty) e s t n k
    (record { fits = y; agree = a }) o j l v))
acts_read laws W m below here at (Assigns x e) d o h on s t n k y z i a =
    let p : Code = m.code in
    let c : Context = here.context in
    let l : AllIn on (statement_uses p here.method (Assigns x e) c) = plain_in laws on p here.method at (Assigns x e)
    c d (record { locals = λ b x. refl; groups = refl }) h i in
    rw (one-Assigns m below here at x e s n, one-Assigns m below here at x e t k)
    (plainly on (statement_uses p here.method (Assigns x e) c) n k _ _ l
    (assigned_so on m below here d at x e s t n k h l
    (λ w r j u more v. set_alike on more m below here c r at x.name w e s t n k (record { fits = y; agree = a }) o j u
    v)))
acts_read laws W m below here at (Stores path e) d o h on s t n k y z i a =
    let p : Code = m.code in
    let c : Context = here.context in
    let l : AllIn on (statement_uses p here.method (Stores path e) c) = plain_in laws on p here.method at
    (Stores path e) c d (record { locals = λ b x. refl; groups = refl }) h i in
    rw (one-Stores m below here at path e s n, one-Stores m below here at path e t k)
    (plainly on (statement_uses p here.method (Stores path e) c) n k _ _ l
    (does_alike (Agree on) (stored p path e s) (stored p path e t) at n k
    (stored_alike on p c d s t (record { fits = y; agree = a }) path e h l)))
acts_read laws W m below here at (StoresAt path j e) d o h on s t n k y z i a =
    let p : Code = m.code in
    let c : Context = here.context in
    let l : AllIn on (statement_uses p here.method (StoresAt path j e) c) = plain_in laws on p here.method at
    (StoresAt path j e) c d (record { locals = λ b x. refl; groups = refl }) h i in
    rw (one-StoresAt m below here at path j e s n, one-StoresAt m below here at path j e t k)
    (plainly on (statement_uses p here.method (StoresAt path j e) c) n k _ _ l
    (does_alike (Agree on) (stored_at p path j e s) (stored_at p path j e t) at n k
    (stored_at_alike on p c d s t (record { fits = y; agree = a }) path j e h l)))
acts_read laws W m below here at (Calls j) d o h on s t n k y z i a = absurd (cc o)
acts_read laws W m below here at (Chooses e j b) d o h on s t n k y z i a = absurd (cc o)
acts_read laws W m below here at (ChoosesElse e j b l b') d o h on s t n k y z i a = absurd (cc o)
acts_read laws W m below here at (Repeats e j b) d o h on s t n k y z i a = absurd (cc o)
acts_read laws W m below here at (Groups g) d o h on s t n k y z i a =
    let c : Context = here.context in
    let u : Agree (with_used (whole_group g.name) on) s t = unknown_agrees on m.code c s t g.name y z
    (group_is_new c d g h) a in
    rw (one-Groups m below here at g s n, one-Groups m below here at g t k) (
      members_keep (with_used (whole_group g.name) on) s t g.name []
          (or_right (on (resource.Group g.name)) _ (in_group (λ r. is_some (whole_group g.name r)) mode.GroupWhole
          g.name
          (λ r e. e))) u,
      prints_nothing n.log k.log,
    )
acts_read laws W m below here at (Splits gs j b) d o h on s t n k y z i a = absurd (cc o)
acts_read laws W m below here at (Locks g j b) d o h on s t n k y z i a = absurd (cc o)
acts_read laws W m below here at (Freezes x) d o h on s t n k y z i a =
    let p : Code = m.code in
    let c : Context = here.context in
    let l : AllIn on (statement_uses p here.method (Freezes x) c) = plain_in laws on p here.method at
    (Freezes x) c d (record { locals = λ b x. refl; groups = refl }) h i in
    rw (one-Freezes m below here at x s n, one-Freezes m below here at x t k)
    (plainly on (statement_uses p here.method (Freezes x) c) n k _ _ l
    (does_alike (Agree on) (frozen x.name s) (frozen x.name t) at n k
    (frozen_alike on s t x.name (in_local on mode.Write x.name l) a)))
acts_read laws W m below here at (Shares x g) d o h on s t n k y z i a =
    let p : Code = m.code in
    let c : Context = here.context in
    let l : AllIn on (statement_uses p here.method (Shares x g) c) = plain_in laws on p here.method at
    (Shares x g) c d (record { locals = λ b x. refl; groups = refl }) h i in
    rw (one-Shares m below here at x g s n, one-Shares m below here at x g t k)
    (plainly on (statement_uses p here.method (Shares x g) c) n k _ _ l
    (does_alike (Agree on) (shares_into x.name g.name s) (shares_into x.name g.name t) at n k
    (shared_alike on s t x.name g.name
    (in_local on mode.Write x.name (in_left on (write_use x.name) (whole_group g.name) l))
    (in_group on mode.GroupWhole g.name (in_right on (write_use x.name) (whole_group g.name) l)) a)))
acts_read laws W m below here at (Prints e) d o h on s t n k y z i a =
    let p : Code = m.code in
    let c : Context = here.context in
    let l : AllIn on (statement_uses p here.method (Prints e) c) = plain_in laws on p here.method at
    (Prints e) c d (record { locals = λ b x. refl; groups = refl }) h i in
    let b = first_holds (judge_value p c e) (λ _. prints c at) d h in
    rw (one-Prints m below here at e s n, one-Prints m below here at e t k)
    (plainly on (statement_uses p here.method (Prints e) c) n k _ _ l
    (printed_alike on p here at e s t n k
    (value_alike on p c s t (record { fits = y; agree = a }) e b.0 b.1
    (in_left on (value_uses p c e) (whole_group io) l)) a))
acts_read laws W m below here at (PrintsText text) d o h on s t n k y z i a =
    let p : Code = m.code in
    let c : Context = here.context in
    let l : AllIn on (statement_uses p here.method (PrintsText text) c) = plain_in laws on p here.method at
    (PrintsText text) c d (record { locals = λ b x. refl; groups = refl }) h i in
    rw (one-PrintsText m below here at text s n, one-PrintsText m below here at text t k) (
      agree_on on (with_used (whole_group io) on) s t (used_in on (whole_group io) l) a,
      record { pieces = record { path = here.path; bytes = text } ∷ []; first = refl; second = refl },
    )
acts_read laws W m below here at (Asserts e) d o h on s t n k y z i a =
    let p : Code = m.code in
    let c : Context = here.context in
    let l : AllIn on (statement_uses p here.method (Asserts e) c) = plain_in laws on p here.method at
    (Asserts e) c d (record { locals = λ b x. refl; groups = refl }) h i in
    let b = first_holds (is_value p c f.Bool e) (λ _. Holds c) d h in
    rw (one-Asserts m below here at e s n, one-Asserts m below here at e t k)
    (plainly on (statement_uses p here.method (Asserts e) c) n k _ _ l
    (asserted_alike on p at e s t n k
    (form_alike on p c s t (record { fits = y; agree = a }) e f.Bool b.0 b.1 l) a))
acts_read laws W m below here at (Returns e) d o h on s t n k y z i a =
    let p : Code = m.code in
    let c : Context = here.context in
    let l : AllIn on (statement_uses p here.method (Returns e) c) = plain_in laws on p here.method at
    (Returns e) c d (record { locals = λ b x. refl; groups = refl }) h i in
    rw (one-Returns m below here at e s n, one-Returns m below here at e t k)
    (plainly on (statement_uses p here.method (Returns e) c) n k _ _ l
    (does_alike (Agree on) (returns_value p here.method e s) (returns_value p here.method e t) at n k
    (returned_alike on p here.method c d s t (record { fits = y; agree = a }) e at h l)))

-- From states that agree on what they use statements without blocks and calls go alike.
pub acts_read_what_they_use : UseLaws → ActsReadWhatTheyUse
acts_read_what_they_use laws = (acts_read laws ⊤, acts_read laws (List Seen))
