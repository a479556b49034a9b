-- The atomic block of a statement of the text is found again by the number in what it asks.
use Rattle.std.proofs.Common.{◌≡◌, ◌≢◌, ◌⊎◌, inl, inr, refl, ap, sym, subst, ◌∙◌, arith, ℕ, zero, suc, nat_eq, Bool}
use Rattle.std.proofs.Common.{true, false, if◌then◌else◌, List, [], ◌∷◌, ◌++◌, Option, None, Some, Contains}
use Rattle.std.specs.Prelude.{option_map, slice_get}
use Rattle.std.proofs.lemmas.Bool.{eq-eqb, eqb-true}
use Rattle.ae_tree.specs.declared.tree.NameAt.{NameAt}
use Rattle.ae_tree.specs.declared.tree.StmtAt.{StmtAt}
use Rattle.ae_tree.specs.Plain.{Action, Locks, Lines, End, Next, Definition, Code}
use Rattle.ae_rules.specs.Verdict.{Verdict, Holds, Broken, given, judged}
use Rattle.ae_rules.specs.Lookups.{method_at}
use Rattle.ae_rules.specs.Context.{Context}
use Rattle.ae_rules.specs.Statements.{while_locked, judge_statement}
use Rattle.ae_rules.specs.Uses.{statement_at, contexts, context_at}
use Rattle.ae_rules.specs.Blocks.{Scene, block_at, Opened, scene_numbered, all_scenes, scene}
use Rattle.ae_rules.specs.Instances.{Instance}
use Rattle.ae_semantics.specs.Runs.{Where, locking, whole_block}
use Rattle.ae_semantics.specs.Blocks.{ask_of}
use Rattle.ae_semantics.specs.Report.{AllPairs}
use Rattle.ae_semantics.specs.Atom.{Located, lock_in, locks_among, locks_in_blocks, all_locks, lock_numbered, located}
use Rattle.ae_semantics.specs.Standing.{AsksAreLocated}
use Rattle.ae_semantics.proofs.LockNumbers.{shaped_locks_differ}
use Rattle.std.proofs.lemmas.Option.{same_Some}

-- ---- what a list has

abbrev IsIn : {A : Type 0} → A → List A → Type 0
IsIn x [] = ⊥
IsIn x (y ∷ ys) = (y ≡ x) ⊎ IsIn x ys

in_first : {A : Type 0} (x : A) (xs ys : List A) → IsIn x xs → IsIn x (xs ++ ys)
in_first x [] ys h = absurd h
in_first x (y ∷ xs) ys (inl e) = inl e
in_first x (y ∷ xs) ys (inr h) = inr (in_first x xs ys h)

in_second : {A : Type 0} (x : A) (xs ys : List A) → IsIn x ys → IsIn x (xs ++ ys)
in_second x [] ys h = h
in_second x (y ∷ xs) ys h = inr (in_second x xs ys h)

in_contains : {A : Type 0} (x : A) (xs : List A) → IsIn x xs → Contains xs x
in_contains x [] h = absurd h
in_contains x (y ∷ ys) (inl e) = (0, omega arith, e)
in_contains x (y ∷ ys) (inr h) = let c : Contains ys x = in_contains x ys h in (suc c.0, omega (arith, c.1), c.2)

-- ---- by number

numbered_is : (n : ℕ) (l : Located) (xs : List (ℕ × Located)) → IsIn (n, l) xs
    → AllPairs (λ (x y : ℕ × Located). x.0 ≢ y.0) xs → lock_numbered n xs ≡ Some l
numbered_is n l [] h d = absurd h
numbered_is n l (x ∷ xs) (inl e) d =
    subst (λ (y : ℕ × Located). (if nat_eq y.0 n then Some y.1 else lock_numbered n xs) ≡ Some l) (sym e)
    (ap (λ (b : Bool). if b then Some l else lock_numbered n xs) (eq-eqb n n refl))
numbered_is n l (x ∷ xs) (inr h) d = by_test (numbered_is n l xs h d.1) (nat_eq x.0 n) refl
  where
    by_test : lock_numbered n xs ≡ Some l → (b : Bool) → nat_eq x.0 n ≡ b
        → (if b then Some x.1 else lock_numbered n xs) ≡ Some l
    by_test i true e = absurd (d.0 (n, l) (in_contains (n, l) xs h) (eqb-true x.0 n e))
    by_test i false e = i

-- a block that is found by its number is one of them
scene_is : (n : ℕ) (xs : List Opened) (s : Scene) → scene_numbered n xs ≡ Some s → (x : Opened) × IsIn x xs × (x.1 ≡ s)
scene_is n [] s e = absurd (cc e)
scene_is n (x ∷ xs) s e = by_test (λ d. scene_is n xs s d) (nat_eq x.0 n) e
  where
    by_test : (scene_numbered n xs ≡ Some s → (x : Opened) × IsIn x xs × (x.1 ≡ s)) → (b : Bool)
        → (if b then Some x.1 else scene_numbered n xs) ≡ Some s
        → (y : Opened) × IsIn y (x ∷ xs) × (y.1 ≡ s)
    by_test k true d = (x, inl refl, same_Some x.1 s d)
    by_test k false d = let r : (x : Opened) × IsIn x xs × (x.1 ≡ s) = k d in (r.0, inr r.1, r.2)

-- ---- the atomic blocks of a method

abbrev located_there : Definition → NameAt → Lines → Context → Located
located_there m g b c = record { group = g.name; block = block_at m b (while_locked g.name c) }

in_locks : (p : Code) (m : Definition) (g : NameAt) (n : ℕ) (b x : Lines) (i : ℕ) (c d : Context)
    → statement_at x i ≡ Some (Locks g n b) → slice_get (contexts p m x c) i ≡ Some d
    → IsIn (n, located_there m g b d) (locks_among p m x c)
in_locks p m g n b End i c d e f = absurd (cc e)
in_locks p m g n b (Next at a rest) zero c d e f = in_first (n, located_there m g b d) (lock_in m a c)
    (judged (judge_statement p m at a c) [] (locks_among p m rest))
    (subst (λ (y : Action). IsIn (n, located_there m g b d) (lock_in m y c)) (sym (same_Some a (Locks g n b) e))
    (inl (ap (λ (y : Context). (n, located_there m g b y)) (same_Some c d f))))
in_locks p m g n b (Next at a rest) (suc i) c d e f = in_second (n, located_there m g b d) (lock_in m a c)
    (judged (judge_statement p m at a c) [] (locks_among p m rest))
    (by_verdict (λ y k. in_locks p m g n b rest i y d e k) (judge_statement p m at a c) f)
  where
    by_verdict : ((y : Context) → slice_get (contexts p m rest y) i ≡ Some d
        → IsIn (n, located_there m g b d) (locks_among p m rest y)) → (v : Verdict Context)
        → slice_get (judged v [] (contexts p m rest)) i ≡ Some d
        → IsIn (n, located_there m g b d) (judged v [] (locks_among p m rest))
    by_verdict h (Holds y) k = h y k
    by_verdict h (Broken r at) k = absurd (cc k)

in_blocks : (p : Code) (m : Definition) (y : ℕ × Located) (x : Opened) (xs : List Opened) → IsIn x xs
    → IsIn y (locks_among p m x.1.lines x.1.start) → IsIn y (locks_in_blocks p m xs)
in_blocks p m y x [] h i = absurd h
in_blocks p m y x (z ∷ xs) (inl e) i = in_first y (locks_among p m z.1.lines z.1.start) (locks_in_blocks p m xs)
    (subst (λ (w : Opened). IsIn y (locks_among p m w.1.lines w.1.start)) (sym e) i)
in_blocks p m y x (z ∷ xs) (inr h) i = in_second y (locks_among p m z.1.lines z.1.start) (locks_in_blocks p m xs)
    (in_blocks p m y x xs h i)

-- ---- the law

abbrev place_in : StmtAt → ℕ → Instance → Definition → Context → Where
place_in x depth path m c = record {
  number = x.method;
  method = m;
  depth = depth;
  path = path;
  context = c;
  inside =
      false;
}

pub asks_are_located : AsksAreLocated
asks_are_located p w x depth path here g n b fuel u s stands is = by_method (method_at p x.method) refl stands is
  where
    by_context : (m : Definition) → method_at p x.method ≡ Some m → (t : Scene) → scene p m x.block ≡ Some t
        → (o : Option Context) → context_at p m t.lines t.start x.stmt ≡ o
        → option_map (place_in x depth path m) o ≡ Some here → statement_at t.lines x.stmt ≡ Some (Locks g n b)
        → located p (ask_of here n fuel u s)
        ≡ Some (record { group = g.name; block = whole_block b (locking g here) })
    by_context m i t j None k e f = absurd (cc e)
    by_context m i t j (Some c) k e f = subst (λ (h : Where). located p (ask_of h n fuel u s)
        ≡ Some (record { group = g.name; block = whole_block b (locking g h) }))
        (same_Some (place_in x depth path m c) here e)
        (ap (λ (o : Option Definition). given o None (λ (m : Definition). lock_numbered n (all_locks p m))) i
        ∙ numbered_is n (located_there m g b c) (all_locks p m)
        (let r = scene_is x.block (all_scenes p m) t j in in_blocks p m (n, located_there m g b c) r.0
        (all_scenes p m) r.1
        (subst (λ (w : Scene). IsIn (n, located_there m g b c) (locks_among p m w.lines w.start)) (sym r.2)
        (in_locks p m g n b t.lines x.stmt t.start c f k))) (shaped_locks_differ p x.method m w i))

    by_scene : (m : Definition) → method_at p x.method ≡ Some m → (o : Option Scene) → scene p m x.block ≡ o
        → given o None (λ (t : Scene). option_map (place_in x depth path m) (context_at p m t.lines t.start x.stmt))
        ≡ Some here → given o None (λ (t : Scene). statement_at t.lines x.stmt) ≡ Some (Locks g n b)
        → located p (ask_of here n fuel u s) ≡ Some (record { group = g.name; block = whole_block b (locking g here) })
    by_scene m i None j e f = absurd (cc e)
    by_scene m i (Some t) j e f = by_context m i t j (context_at p m t.lines t.start x.stmt) refl e f

    by_method : (o : Option Definition) → method_at p x.method ≡ o
        → given o None (λ (m : Definition). given (scene p m x.block) None
        (λ (t : Scene). option_map (place_in x depth path m) (context_at p m t.lines t.start x.stmt))) ≡ Some here
        → given o None (λ (m : Definition). given (scene p m x.block) None
        (λ (t : Scene). statement_at t.lines x.stmt)) ≡ Some (Locks g n b)
        → located p (ask_of here n fuel u s) ≡ Some (record { group = g.name; block = whole_block b (locking g here) })
    by_method None i e f = absurd (cc e)
    by_method (Some m) i e f = by_scene m i (scene p m x.block) refl e f
