-- What one declaration, field or method more adds to the maps of a class table.
use Rattle.std.proofs.Common.{◌≡◌, ◌<◌, ◌+◌, ℕ, zero, suc, false, not, cond, nat_eq, List, [], ◌∷◌, ◌++◌}
use Rattle.std.proofs.Common.{length, take, drop, get_or, None, Some, Result, Err, IsErrAnd, refl, sym, ap}
use Rattle.std.proofs.Common.{subst, ◌∙◌, arith}
use Rattle.std.proofs.Common.{slice_get, inl, inr}
use Rattle.std.specs.Prelude.{find, filter_map, option_map, ⊤}
use Rattle.std.specs.Option.{option_or}
use Rattle.std.proofs.lemmas.List.Folds.{find-append}
use Rattle.std.proofs.lemmas.List.Elements.{filter_map-append}
use Rattle.std.proofs.lemmas.List.{take_more, drop_more, length-take}
use Rattle.indexmap.specs.IndexMap.{IndexMap, get}
use Rattle.ae_text.specs.declared.refusal.Deny.{Deny}
use Rattle.ae_text.specs.declared.refusal.Deny.TheVariants as deny
use Rattle.ae_text.specs.declared.refusal.Rule.{Rule}
use Rattle.ae_text.specs.declared.refusal.Rule.TheVariants as rule
use Rattle.ae_tree.specs.declared.tree.NameAt.{NameAt}
use Rattle.ae_tree.specs.declared.tree.Field.{Field}
use Rattle.ae_tree.specs.declared.tree.Param.{Param}
use Rattle.ae_tree.specs.declared.tree.GroupNeed.{GroupNeed}
use Rattle.ae_tree.specs.declared.tree.Class.{Class}
use Rattle.ae_tree.specs.declared.tree.Decl.{Decl}
use Rattle.ae_tree.specs.declared.tree.Decl.TheVariants as decl
use Rattle.ae_tree.specs.Plain.{Definition, Code}
use Rattle.ae_tree.specs.WellShaped.{class_in}
use Rattle.ae_rules.specs.declared.table.Member.{Member}
use Rattle.ae_rules.specs.declared.table.Member.TheVariants as member
use Rattle.ae_rules.specs.Verdict.{Verdict, Holds, ◌>>=◌, ◌>>◌, require, fine, given, in_turn, if_there}
use Rattle.ae_rules.specs.Answers.{Answers, Leaves}
use Rattle.ae_rules.specs.Lookups.{Names, class_at, method_at, is_called, top_in, member_called}
use Rattle.ae_rules.specs.Lookups.{member_names}
use Rattle.ae_rules.specs.Table.{is_new, and_also, no_names, members_differ, declares_groups, most_groups}
use Rattle.ae_rules.specs.Table.{result_holds, me_holds, param_holds, need_holds, method_holds}
use Rattle.ae_classes.specs.declared.tops.TopNames.{TopNames}
use Rattle.ae_classes.specs.Named.{only_at, HasOneMore}
use Rattle.ae_classes.specs.Classes.{GivesDeclared, GivesMembers, is_class_called, field_names, place_called}
use Rattle.ae_classes.specs.Classes.{method_names}
use Rattle.ae_classes.proofs.PlaceLemmas.{found_with_last, nothing_is_behind, place_with_last, fields_with_last}
use Rattle.ae_classes.proofs.PlaceLemmas.{methods_with_last}
use Rattle.ae_classes.proofs.TurnLemmas.{turns_in_two_parts, first_part_breaks, what_comes_next_breaks}
use Rattle.ae_classes.proofs.TurnLemmas.{answered_by_that_error}
use Rattle.ae_classes.proofs.from_text.Basics.{below_or_last, option_holds_one}

-- ---- declarations

module _ (p : Code) (t u : TopNames) (n : ℕ) (d : Decl) (ds : List Decl) where
  -- a class more
  pub gives_one_class_more : (c : Class) → d ≡ decl.Class n → class_at p n ≡ Some c
      → HasOneMore c.name.name n t.classes u.classes → u.tops ≡ t.tops → GivesDeclared t p ds
      → GivesDeclared u p (ds ++ d ∷ [])
  gives_one_class_more c is there more same before = record {
    classes = λ x. more.found x
        ∙ ap (λ o. option_or o (only_at c.name.name n x)) (before.classes x)
        ∙ ap (λ b. option_or (find (is_class_called p x) (filter_map class_in ds)) (cond b (Some n) None))
        (sym (ap (λ o. given o false (λ (k : Class). nat_eq k.name.name x)) there))
        ∙ sym (found_with_last class_in (is_class_called p x) ds (decl.Class n))
        ∙ ap (λ e. find (is_class_called p x) (filter_map class_in (ds ++ e ∷ []))) (sym is);
    tops = λ x. ap (λ m. get nat_eq m x) same ∙ before.tops x
        ∙ sym (nothing_is_behind (find (is_called p x) (filter_map top_in ds)))
        ∙ sym (found_with_last top_in (is_called p x) ds (decl.Class n))
        ∙ ap (λ e. find (is_called p x) (filter_map top_in (ds ++ e ∷ []))) (sym is);
  }

  -- a class that is not there
  pub gives_no_class_more : d ≡ decl.Class n → class_at p n ≡ None → GivesDeclared t p ds
      → GivesDeclared t p (ds ++ d ∷ [])
  gives_no_class_more is there before = record {
    classes = λ x. before.classes x
        ∙ sym (nothing_is_behind (find (is_class_called p x) (filter_map class_in ds)))
        ∙ ap (λ b. option_or (find (is_class_called p x) (filter_map class_in ds)) (cond b (Some n) None))
        (sym (ap (λ o. given o false (λ (k : Class). nat_eq k.name.name x)) there))
        ∙ sym (found_with_last class_in (is_class_called p x) ds (decl.Class n))
        ∙ ap (λ e. find (is_class_called p x) (filter_map class_in (ds ++ e ∷ []))) (sym is);
    tops = λ x. before.tops x
        ∙ sym (nothing_is_behind (find (is_called p x) (filter_map top_in ds)))
        ∙ sym (found_with_last top_in (is_called p x) ds (decl.Class n))
        ∙ ap (λ e. find (is_called p x) (filter_map top_in (ds ++ e ∷ []))) (sym is);
  }

  -- a method more
  pub gives_one_method_more : (m : Definition) → d ≡ decl.Method n → method_at p n ≡ Some m
      → HasOneMore m.name.name n t.tops u.tops → u.classes ≡ t.classes → GivesDeclared t p ds
      → GivesDeclared u p (ds ++ d ∷ [])
  gives_one_method_more m is there more same before = record {
    classes = λ x. ap (λ k. get nat_eq k x) same ∙ before.classes x
        ∙ sym (nothing_is_behind (find (is_class_called p x) (filter_map class_in ds)))
        ∙ sym (found_with_last class_in (is_class_called p x) ds (decl.Method n))
        ∙ ap (λ e. find (is_class_called p x) (filter_map class_in (ds ++ e ∷ []))) (sym is);
    tops = λ x. more.found x
        ∙ ap (λ o. option_or o (only_at m.name.name n x)) (before.tops x)
        ∙ ap (λ b. option_or (find (is_called p x) (filter_map top_in ds)) (cond b (Some n) None))
        (sym (ap (λ o. given o false (λ (k : Definition). nat_eq k.name.name x)) there))
        ∙ sym (found_with_last top_in (is_called p x) ds (decl.Method n))
        ∙ ap (λ e. find (is_called p x) (filter_map top_in (ds ++ e ∷ []))) (sym is);
  }

  -- a method that is not there
  pub gives_no_method_more : d ≡ decl.Method n → method_at p n ≡ None → GivesDeclared t p ds
      → GivesDeclared t p (ds ++ d ∷ [])
  gives_no_method_more is there before = record {
    classes = λ x. before.classes x
        ∙ sym (nothing_is_behind (find (is_class_called p x) (filter_map class_in ds)))
        ∙ sym (found_with_last class_in (is_class_called p x) ds (decl.Method n))
        ∙ ap (λ e. find (is_class_called p x) (filter_map class_in (ds ++ e ∷ []))) (sym is);
    tops = λ x. before.tops x
        ∙ sym (nothing_is_behind (find (is_called p x) (filter_map top_in ds)))
        ∙ ap (λ b. option_or (find (is_called p x) (filter_map top_in ds)) (cond b (Some n) None))
        (sym (ap (λ o. given o false (λ (k : Definition). nat_eq k.name.name x)) there))
        ∙ sym (found_with_last top_in (is_called p x) ds (decl.Method n))
        ∙ ap (λ e. find (is_called p x) (filter_map top_in (ds ++ e ∷ []))) (sym is);
  }

-- ---- members

-- a name that none before has
pub new_name_joins : (r : Rule) (x : NameAt) (names later : Names) → require (not (names x.name)) r x.at ≡ fine
    → and_also x.name names ≡ later → is_new r x names ≡ Holds later
new_name_joins r x names later holds joined = ap (λ v. v >> Holds (and_also x.name names)) holds ∙ ap Holds joined

-- one field more, by its place
pub place_of_one_more : {S : Type 0} (fields : List Field) (i : ℕ) (d : Field) (m n : IndexMap ℕ Member S)
    → i < length fields
    → d ≡ get_or fields i d → HasOneMore d.name.name (member.Field i) m n
    → ((x : ℕ) → get nat_eq m x ≡ option_map member.Field (place_called (take i fields) x))
    → (x : ℕ) → get nat_eq n x ≡ option_map member.Field (place_called (take (i + 1) fields) x)
place_of_one_more fields i d m n l is more before x =
    more.found x
    ∙ ap (λ o. option_or o (only_at d.name.name (member.Field i) x)) (before x)
    ∙ fields_with_last (place_called (take i fields) x) (nat_eq d.name.name x) i
    ∙ ap (λ k. option_map member.Field (option_or (place_called (take i fields) x) (cond (nat_eq d.name.name x)
    (Some k) None)))
    (let e : i ≡ length (take i fields) = omega (arith, length-take i fields, l) in e)
    ∙ ap (option_map member.Field) (sym (place_with_last (λ (f : Field). nat_eq f.name.name x) (take i fields) d))
    ∙ ap (λ (ys : List Field). option_map member.Field (place_called ys x))
    (ap (λ y. take i fields ++ y ∷ []) is ∙ sym (take_more fields i d l))

-- one method more, by its number
pub number_of_one_more : {S : Type 0} (p : Code) (numbers : List ℕ) (i k : ℕ) (first m n : IndexMap ℕ Member S)
    → i < length numbers
    → k ≡ get_or numbers i 0
    → ((x : ℕ) → get nat_eq n x ≡ option_or (get nat_eq m x) (option_map member.Method (find (is_called p x)
    (k ∷ []))))
    → ((x : ℕ) → get nat_eq m x
    ≡ option_or (get nat_eq first x) (option_map member.Method (find (is_called p x) (take i numbers))))
    → (x : ℕ) → get nat_eq n x
    ≡ option_or (get nat_eq first x) (option_map member.Method (find (is_called p x) (take (i + 1) numbers)))
number_of_one_more p numbers i k first m n l is more before x =
    more x
    ∙ ap (λ o. option_or o (option_map member.Method (find (is_called p x) (k ∷ [])))) (before x)
    ∙ methods_with_last (get nat_eq first x) (find (is_called p x) (take i numbers)) (find (is_called p x) (k ∷ []))
    ∙ ap (λ o. option_or (get nat_eq first x) (option_map member.Method o))
    (sym (find-append (is_called p x) (take i numbers) (k ∷ [])))
    ∙ ap (λ (ns : List ℕ). option_or (get nat_eq first x) (option_map member.Method (find (is_called p x) ns)))
    (ap (λ y. take i numbers ++ y ∷ []) is ∙ sym (take_more numbers i 0 l))

-- the fields are judged first
pub members_break_at_fields : {B : Type 0} (p : Code) (c : Class) (fs : List Field) (names : Names) (view : B
    → ⊤) (e : Deny)
    (r : Result B Deny) → fs ≡ c.fields → Leaves (in_turn (is_new rule.DuplicateMember)
    (field_names fs) no_names) names (Err e)
    → IsErrAnd r (λ y. y ≡ e) → Answers (members_differ p c) view r
members_break_at_fields p c fs names view e r same broken =
    let P : List Field → Type 0 = λ ds. Leaves (in_turn (is_new rule.DuplicateMember)
    (field_names ds) no_names) names (Err e) in
    answered_by_that_error (members_differ p c) view tt e r
    (what_comes_next_breaks (in_turn (is_new rule.DuplicateMember) (member_names p c) no_names) (λ _. fine) names tt e
    (first_part_breaks (is_new rule.DuplicateMember) (field_names c.fields)
    (method_names p c.methods) no_names names e
    (subst P same broken)))

both_are_asked : (p : Code) (c : Class) (fs : List Field) (ns : List ℕ) (names : Names) → fs ≡ c.fields → ns
    ≡ c.methods
    → in_turn (is_new rule.DuplicateMember) (field_names fs) no_names ≡ Holds names
    → in_turn (is_new rule.DuplicateMember) (member_names p c) no_names
    ≡ in_turn (is_new rule.DuplicateMember) (method_names p ns) names
both_are_asked p c fs ns names same also holds =
    turns_in_two_parts (is_new rule.DuplicateMember) (field_names c.fields) (method_names p c.methods) no_names
    ∙ ap (λ v. v >>= in_turn (is_new rule.DuplicateMember) (method_names p c.methods))
    (ap (λ (ds : List Field). in_turn (is_new rule.DuplicateMember) (field_names ds) no_names) (sym same) ∙ holds)
    ∙ ap (λ (ks : List ℕ). in_turn (is_new rule.DuplicateMember) (method_names p ks) names) (sym also)

-- and then the methods
pub members_break_at_methods : {B : Type 0} (p : Code) (c : Class) (fs : List Field) (ns : List ℕ)
    (names later : Names)
    (view : B → ⊤) (e : Deny) (r : Result B Deny) → fs ≡ c.fields → ns ≡ c.methods
    → in_turn (is_new rule.DuplicateMember) (field_names fs) no_names ≡ Holds names
    → Leaves (in_turn (is_new rule.DuplicateMember) (method_names p ns) names) later (Err e)
    → IsErrAnd r (λ y. y ≡ e) → Answers (members_differ p c) view r
members_break_at_methods p c fs ns names later view e r same also holds broken =
    let P : Verdict Names → Type 0 = λ v. Leaves v later (Err e) in
    answered_by_that_error (members_differ p c) view tt e r
    (what_comes_next_breaks (in_turn (is_new rule.DuplicateMember) (member_names p c) no_names) (λ _. fine) later tt e
    (subst P (sym (both_are_asked p c fs ns names same also holds)) broken))

-- where both hold, the members differ
pub members_hold : (p : Code) (c : Class) (fs : List Field) (ns : List ℕ) (names later : Names) → fs ≡ c.fields
    → ns ≡ c.methods → in_turn (is_new rule.DuplicateMember) (field_names fs) no_names ≡ Holds names
    → in_turn (is_new rule.DuplicateMember) (method_names p ns) names ≡ Holds later → members_differ p c ≡ fine
members_hold p c fs ns names later same also holds then_holds =
    ap (λ v. v >> fine) (both_are_asked p c fs ns names same also holds ∙ then_holds)

-- one method more holds
pub one_method_more : (p : Code) (numbers : List ℕ) (i k : ℕ) (v : Verdict Names) (s t : Names) → i < length numbers
    → k ≡ get_or numbers i 0
    → v ≡ in_turn (is_new rule.DuplicateMember) (method_names p (drop i numbers)) s
    → in_turn (is_new rule.DuplicateMember) (method_names p (k ∷ [])) s ≡ Holds t
    → v ≡ in_turn (is_new rule.DuplicateMember) (method_names p (drop (i + 1) numbers)) t
one_method_more p numbers i k v s t l is before holds =
    before
    ∙ ap (λ (ks : List ℕ). in_turn (is_new rule.DuplicateMember) (method_names p ks) s)
    (drop_more numbers i 0 l ∙ ap (λ y. y ∷ drop (i + 1) numbers) (sym is))
    ∙ ap (λ xs. in_turn (is_new rule.DuplicateMember) xs s)
    (filter_map-append (λ n. option_map (λ (m : Definition). m.name) (method_at p n)) (k ∷ []) (drop (i + 1) numbers))
    ∙ turns_in_two_parts (is_new rule.DuplicateMember) (method_names p (k ∷ [])) (method_names p (drop
    (i + 1) numbers)) s
    ∙ ap (λ w. w >>= in_turn (is_new rule.DuplicateMember) (method_names p (drop (i + 1) numbers))) holds

-- ---- all classes

all_before_the_last : {A : Type 0} (xs : List A) (y : A) (n : ℕ) → n < length xs → slice_get (xs ++ y ∷ []) n
    ≡ slice_get xs n
all_before_the_last [] y n l = absurd (omega arith)
all_before_the_last (x ∷ xs) y zero l = refl
all_before_the_last (x ∷ xs) y (suc n) l = all_before_the_last xs y n (omega arith)

the_last_itself : {A : Type 0} (xs : List A) (y : A) (n : ℕ) → n ≡ length xs → slice_get (xs ++ y ∷ []) n ≡ Some y
the_last_itself [] y zero e = refl
the_last_itself [] y (suc n) e = absurd (omega arith)
the_last_itself (x ∷ xs) y zero e = absurd (omega arith)
the_last_itself (x ∷ xs) y (suc n) e = the_last_itself xs y n (omega arith)

-- one class more has its members
pub one_class_more_has_members : {S : Type 0} (p : Code) (ms later : List (IndexMap ℕ Member S))
    (m : IndexMap ℕ Member S)
    (i : ℕ) (k : Class) → length ms ≡ i → later ≡ ms ++ m ∷ [] → class_at p i ≡ Some k → GivesMembers m p k
    → ((n x : ℕ) (c : Class) → n < i → class_at p n ≡ Some c
    → option_map (λ w. get nat_eq w x) (slice_get ms n) ≡ Some (member_called p c x))
    → (n x : ℕ) (c : Class) → n < i + 1 → class_at p n ≡ Some c
    → option_map (λ w. get nat_eq w x) (slice_get later n) ≡ Some (member_called p c x)
one_class_more_has_members p ms later m i k len is here gives before n x c l there =
    elim (below_or_last n i (omega arith)) [
      | inl below ↦
          ap (λ (ws : List _). option_map (λ w. get nat_eq w x) (slice_get ws n)) is
          ∙ ap (option_map (λ w. get nat_eq w x)) (all_before_the_last ms m n (omega arith))
          ∙ before n x c below there
      | inr same ↦
          ap (λ (ws : List _). option_map (λ w. get nat_eq w x) (slice_get ws n)) is
          ∙ ap (option_map (λ w. get nat_eq w x)) (the_last_itself ms m n (omega arith))
          ∙ ap Some (gives x)
          ∙ ap (λ (d : Class). Some (member_called p d x))
          (option_holds_one (class_at p i) k c here (ap (class_at p) (sym same) ∙ there))
    ]

-- ---- groups

-- a group that is refused where there is room
pub a_group_breaks : (room : ℕ) (g : NameAt) (gs xs : List NameAt) (v : Verdict Names) (known later : Names)
    (e : Deny)
    → (room ≡ 0 → ⊥) → xs ≡ g ∷ gs → v ≡ declares_groups room xs known
    → Leaves (is_new rule.GroupTwice g known) later (Err e) → Leaves v later (Err e)
a_group_breaks zero g gs xs v known later e some here before broken = absurd (some refl)
a_group_breaks (suc room) g gs xs v known later deny.Memory some here before broken = tt
a_group_breaks (suc room) g gs xs v known later (deny.Refused r) some here before broken =
    before ∙ ap (λ ys. declares_groups (suc room) ys known) here ∙ ap (λ w. w >>= declares_groups room gs) broken

-- ---- methods

-- a method whose groups, result, receiver and parameters hold comes to what its needs come to
pub method_comes_to_its_needs : (p : Code) (outer known start names asked : Names) (m : Definition) (gs : List NameAt)
    (xs : List Param) (ns : List GroupNeed) → gs ≡ m.groups → xs ≡ m.params → ns ≡ m.needs
    → declares_groups most_groups gs outer ≡ Holds known → result_holds p known m.result ≡ fine
    → if_there m.me (me_holds known) ≡ fine → start ≡ known → in_turn (param_holds p known) xs start ≡ Holds names
    → asked ≡ no_names → method_holds p outer m ≡ in_turn (need_holds known) ns asked >> fine
method_comes_to_its_needs p outer known start names asked m gs xs ns groups params needs declared result me same
    holds none =
    let needs_of : Names → Verdict ⊤ = λ k. in_turn (need_holds k) m.needs no_names >> fine in
    let params_of : Names → Verdict ⊤ = λ k. in_turn (param_holds p k) m.params k >> needs_of k in
    let me_of : Names → Verdict ⊤ = λ k. if_there m.me (me_holds k) >> params_of k in
    let rest : Names → Verdict ⊤ = λ k. result_holds p k m.result >> me_of k in
    ap (λ (ys : List NameAt). declares_groups most_groups ys outer >>= rest) (sym groups)
    ∙ ap (λ v. v >>= rest) declared
    ∙ ap (λ v. v >> me_of known) result
    ∙ ap (λ v. v >> params_of known) me
    ∙ ap (λ (ys : List Param). in_turn (param_holds p known) ys known >> needs_of known) (sym params)
    ∙ ap (λ k. in_turn (param_holds p known) xs k >> needs_of known) (sym same)
    ∙ ap (λ v. v >> needs_of known) holds
    ∙ ap (λ (ys : List GroupNeed). in_turn (need_holds known) ys no_names >> fine) (sym needs)
    ∙ ap (λ k. in_turn (need_holds known) ns k >> fine) (sym none)
