-- After a call the names that were given away hold nothing and have no value, and all else is as before.
use Rattle.std.proofs.Common.{◌≡◌, ◌⊎◌, inl, inr, refl, sym, ap, ◌∙◌, subst, ℕ, nat_eq, Bool, true, false}
use Rattle.std.proofs.Common.{◌&&◌, not, if◌then◌else◌, List, [], ◌∷◌, ◌++◌, Option, None, Some}
use Rattle.std.specs.List.{cons_option}
use Rattle.std.specs.Prelude.{filter_map, is_some}
use Rattle.std.proofs.lemmas.Bool.{and_from, eqb-true}
use Rattle.ae_tree.specs.declared.form.Form.{Form}
use Rattle.ae_tree.specs.Plain.{Code, Expression}
use Rattle.ae_rules.specs.declared.held.Held.{Held}
use Rattle.ae_rules.specs.declared.held.Held.TheVariants as held
use Rattle.ae_rules.specs.Verdict.{Holds, in_turn, given}
use Rattle.ae_rules.specs.Forms.{is_object}
use Rattle.ae_rules.specs.Shares.{Share, splits, joins}
use Rattle.ae_rules.specs.Context.{Local, Context, held_in, with_held}
use Rattle.ae_rules.specs.Calls.{Roots, no_roots, ParamSlot, if_some}
use Rattle.ae_rules.specs.Calls.{to_slot, LentPart, argument_parts, given_back, after_call}
use Rattle.ae_rules.specs.Laws.{none_away, CallsGiveBack, none_of, GivenAwayIsGone}
use Rattle.ae_tree.specs.Names.{io}
use Rattle.ae_rules.specs.Groups.{known}
use Rattle.ae_semantics.specs.Places.{Group, State, other_name, name_of, with_bound}
use Rattle.ae_semantics.specs.Calls.{without_moved}
use Rattle.ae_soundness.specs.Fits.{FitsGroup, FitsLocal, form_has_members, place_held, has_value}
use Rattle.ae_soundness.specs.Returns.{name_away, NamesGoAway}
use Rattle.ae_soundness.proofs.LocalLemmas.{IsObjectThere, no_value}
use Rattle.ae_soundness.proofs.MoveLemmas.{KeepsForms, keeps_itself, held_keeps}
use Rattle.ae_soundness.proofs.from_rules.PathLemmas.{first_holds}
use Rattle.ae_soundness.proofs.GivenLemmas.{part_of, away_part, StaysHere, GoesAway, IsGiven, form_is_given}

-- ---- all arguments

-- the local is as before
pub record IsKept (parts : List LentPart) (names : List ℕ) (y : ℕ) : Type 0 where
  pub held : none_away parts y ≡ true
  pub value : (s : State) → (without_moved names s).locals y ≡ s.locals y

-- the local is given away, and no argument before these had it for its root
record IsGone (c : Context) (parts : List LentPart) (before : Roots) (y : ℕ) : Type 0 where
  first : List LentPart
  rest : List LentPart
  is : parts ≡ first ++ away_part y ∷ rest
  none : none_of first y ≡ true
  alone : held_in c y ≡ held.Unique
  new : before.used y ≡ false
  object : IsObjectThere c y

-- of each local it is one of the two
abbrev EachIs : Context → List LentPart → List ℕ → Roots → ℕ → Type 0
EachIs c parts names before y = IsKept parts names y ⊎ IsGone c parts before y

-- What is no root after is none before.
pub still_new : (before after : Roots) (y : ℕ) → ((x : ℕ) → before.used x ≡ true → after.used x ≡ true)
    → after.used y ≡ false → before.used y ≡ false
still_new before after y g n = by_test (before.used y) refl
  where
    by_test : (b : Bool) → before.used y ≡ b → before.used y ≡ false
    by_test true e = absurd (cc (g y e, n))
    by_test false e = e

later_gone : (c : Context) (before after : Roots) (x : ParamSlot × Expression) (o : Option LentPart)
    (parts : List LentPart) (y : ℕ) → IsGiven c before after x → part_of c x ≡ o → IsGone c parts after y
    → IsGone c (if_some o parts) before y
later_gone c before after x None parts y j e g = record {
  first = g.first;
  rest = g.rest;
  is = g.is;
  none = g.none;
  alone = g.alone;
  new = still_new before after y j.grows g.new;
  object = g.object;
}
later_gone c before after x (Some part) parts y j e g = record {
  first = part ∷ g.first;
  rest = g.rest;
  is = ap (λ (xs : List LentPart). part ∷ xs) g.is;
  none = and_from (not (nat_eq part.root y)) (none_of g.first y) (other (nat_eq part.root y) refl) g.none;
  alone = g.alone;
  new = still_new before after y j.grows g.new;
  object = g.object;
}
  where
    other : (b : Bool) → nat_eq part.root y ≡ b → not b ≡ true
    other true i =
        let used : after.used y ≡ true
        = subst (λ (z : ℕ). after.used z ≡ true) (eqb-true part.root y i) (j.uses part e)
        in absurd (cc (used, g.new))
    other false i = refl

-- A local is as before where an argument stays here.
pub stays_kept : (o : Option LentPart) (parts : List LentPart) (names : List ℕ) (y : ℕ)
    → ((part : LentPart) → o ≡ Some part → part.away ≡ false) → IsKept parts names y → IsKept (if_some o parts) names y
stays_kept None parts names y k h = h
stays_kept (Some part) parts names y k h = record {
  held = and_from (not (nat_eq part.root y && part.away)) (none_away parts y)
      (subst (λ (b : Bool). not (nat_eq part.root y && b) ≡ true) (sym (k part refl)) (none (nat_eq part.root y)))
      h.held;
  value = h.value;
}
  where
    none : (b : Bool) → not (b && false) ≡ true
    none true = refl
    none false = refl

goes_or_kept : (c : Context) (before : Roots) (x : ParamSlot × Expression) (parts : List LentPart) (names : List ℕ)
    (y : ℕ) (g : GoesAway c before x) → IsKept parts names y
    → EachIs c (away_part g.root ∷ parts) (g.root ∷ names) before y
goes_or_kept c before x parts names y g h = by_test (nat_eq g.root y) refl
  where
    by_test : (b : Bool) → nat_eq g.root y ≡ b → EachIs c (away_part g.root ∷ parts) (g.root ∷ names) before y
    by_test true e =
        let same : g.root ≡ y = eqb-true g.root y e in
        inr (subst (λ (z : ℕ). IsGone c (away_part g.root ∷ parts) before z) same (record {
          first = [];
          rest = parts;
          is = refl;
          none = refl;
          alone = g.alone;
          new = g.new;
          object = g.object;
        }))
    by_test false e = inl (record {
      held = and_from (not (nat_eq g.root y && true)) (none_away parts y)
          (ap (λ (b : Bool). not (b && true)) e) h.held;
      value = λ s. h.value (with_bound g.root None s)
          ∙ ap (λ (b : Bool). if b then None else s.locals y) e;
    })

one_more : (c : Context) (before after : Roots) (x : ParamSlot × Expression) (parts : List LentPart) (names : List ℕ)
    (y : ℕ) → IsGiven c before after x → EachIs c parts names after y
    → EachIs c (if_some (part_of c x) parts) (if_some (name_away x) names) before y
one_more c before after x parts names y j (inr g) = inr (later_gone c before after x (part_of c x) parts y j refl g)
one_more c before after x parts names y j (inl h) = by_kind j.away
  where
    by_kind : StaysHere c x ⊎ GoesAway c before x
        → EachIs c (if_some (part_of c x) parts) (if_some (name_away x) names) before y
    by_kind (inl k) = subst (λ (n : Option ℕ). EachIs c (if_some (part_of c x) parts) (if_some n names) before y)
        (sym k.0) (inl (stays_kept (part_of c x) parts names y k.1 h))
    by_kind (inr g) = subst (λ (n : Option ℕ). EachIs c (if_some (part_of c x) parts) (if_some n names) before y)
        (sym g.name) (subst (λ (o : Option LentPart). EachIs c (if_some o parts) (g.root ∷ names) before y)
        (sym g.part) (goes_or_kept c before x parts names y g h))

in_front : {B : Type 0} (o : Option B) (ys : List B) → cons_option o ys ≡ if_some o ys
in_front None ys = refl
in_front (Some y) ys = refl

-- What is chosen of a list is chosen of its first and of the rest.
pub filtered : {A B : Type 0} (choose : A → Option B) (x : A) (xs : List A)
    → filter_map choose (x ∷ xs) ≡ if_some (choose x) (filter_map choose xs)
filtered choose x xs = in_front (choose x) (filter_map choose xs)

each_is : (p : Code) (c : Context) (xs : List (ParamSlot × Expression)) (before after : Roots) (y : ℕ)
    → in_turn (to_slot p c) xs before ≡ Holds after
    → EachIs c (argument_parts c xs) (filter_map name_away xs) before y
each_is p c [] before after y h = inl (record { held = refl; value = λ s. refl })
each_is p c (x ∷ xs) before after y h =
    let a = first_holds (to_slot p c x before) (in_turn (to_slot p c) xs) after h in
    let r = one_more c before a.0 x (argument_parts c xs) (filter_map name_away xs) y
    (form_is_given p c x.0.form x.0.away x.1 before a.0 a.1) (each_is p c xs a.0 after y a.2) in
    subst (λ (ns : List ℕ). EachIs c (argument_parts c (x ∷ xs)) ns before y) (sym (filtered name_away x xs))
    (subst (λ (ps : List LentPart). EachIs c ps (if_some (name_away x) (filter_map name_away xs)) before y)
    (sym (filtered (part_of c) x xs)) r)

-- ---- the context after

-- each form is the same, and so are all groups
record IsSame (c d : Context) : Type 0 where
  forms : KeepsForms c d
  groups : (g : ℕ) → d.group g ≡ c.group g

held_same : (c d : Context) (x : ℕ) (h : Held) → IsSame c d → IsSame c (with_held x h d)
held_same c d x h k = record { forms = λ y l e. held_keeps c d x y h k.forms (nat_eq x y) l e; groups = k.groups }

back_same : (c d : Context) (x : LentPart) (share : Share) → IsSame c d → IsSame c (given_back x share d)
back_same c d x share k = by_away x.away
  where
    by_join : (o : Option Held) → IsSame c (given o d (λ whole. with_held x.root whole d))
    by_join None = k
    by_join (Some whole) = held_same c d x.root whole k

    by_away : (b : Bool)
        → IsSame c (if b then d else given (joins (held_in d x.root) share.0) d (λ whole. with_held x.root whole d))
    by_away true = k
    by_away false = by_join (joins (held_in d x.root) share.0)

after_same : (c d : Context) (xs : List LentPart) → IsSame c d → IsSame c (after_call xs d)
after_same c d [] k = k
after_same c d (x ∷ xs) k = by_split (λ (e : Context) i. after_same c e xs i) (splits (held_in d x.root) x.need)
  where
    by_split : ((e : Context) → IsSame c e → IsSame c (after_call xs e)) → (o : Option Share)
        → IsSame c (given o (after_call xs d)
        (λ share. given_back x share (after_call xs (with_held x.root share.1 d))))
    by_split ih None = ih d k
    by_split ih (Some share) = back_same c (after_call xs (with_held x.root share.1 d)) x share
        (ih (with_held x.root share.1 d) (held_same c d x.root share.1 k))

-- Forms stay in a call.
pub forms_after : (c : Context) (xs : List LentPart) → KeepsForms c (after_call xs c)
forms_after c xs = (after_same c c xs (record { forms = keeps_itself c; groups = λ g. refl })).forms

-- Groups stay where names move.
pub moved_groups : (xs : List ℕ) (s : State) → (without_moved xs s).groups ≡ s.groups
moved_groups [] s = refl
moved_groups (x ∷ xs) s = moved_groups xs (with_bound x None s)

gone_has_none : (gone : GivenAwayIsGone) (c : Context) (parts : List LentPart) (before : Roots) (y : ℕ) (l : Local)
    → IsSame c (after_call parts c) → IsGone c parts before y → (after_call parts c).local y ≡ Some l
    → has_value (place_held l) ≡ true → ⊥
gone_has_none gone c parts before y l k g e v =
    let r = k.forms y l e in
    let none : held_in (after_call parts c) y ≡ held.None
    = subst (λ (xs : List LentPart). held_in (after_call xs c) y ≡ held.None) (sym g.is)
    (gone g.first g.rest (away_part y) c g.none refl refl g.alone) in
    let nothing : l.held ≡ held.None
    = sym (ap (λ (o : Option Local). given o held.None (λ (l : Local). l.held)) e) ∙ none in
    no_value l.form (subst (λ (t : Form). is_object t ≡ true) r.2 (g.object r.0 r.1))
    (subst (λ (h : Held). has_value (record { form = l.form; held = h }) ≡ true) nothing v)

-- Where names go away with arguments, the state fits what is known after the call.
pub names_go_away : CallsGiveBack → GivenAwayIsGone → NamesGoAway
names_go_away back gone p c s xs roots z h = record {
  form = λ y l e. let r = same.forms y l e in
      subst (λ (t : Form). form_has_members t ≡ true) r.2 (z.form y r.0 r.1);
  local = λ y l e v. at_local y l e v (each_is p c xs no_roots roots y h);
  group = λ g q m e n. subst (λ (gs : ℕ → Option Group). FitsGroup p q (gs (other_name g (gs g)))) (sym moved)
      (z.group g q m (sym (same.groups g) ∙ e)) n;
  name = λ g m k. subst (λ (gs : ℕ → Option Group). known (after_call parts c).group (other_name g (gs g)) ≡ true)
      (sym moved) (ap is_some (same.groups (name_of s g)) ∙ z.name g m (ap is_some (sym (same.groups g)) ∙ k));
  log = ap (λ (gs : ℕ → Option Group). gs io) moved ∙ z.log;
  log_known = ap is_some (same.groups io) ∙ z.log_known;
  unknown = λ g k. ap (λ (gs : ℕ → Option Group). gs g) moved ∙ z.unknown g (ap is_some (sym (same.groups g)) ∙ k);
}
  where
    parts : List LentPart
    parts = argument_parts c xs

    names : List ℕ
    names = filter_map name_away xs

    moved : (without_moved names s).groups ≡ s.groups
    moved = moved_groups names s

    same : IsSame c (after_call parts c)
    same = after_same c c parts (record { forms = keeps_itself c; groups = λ g. refl })

    at_local : (y : ℕ) (l : Local) → (after_call parts c).local y ≡ Some l → has_value (place_held l) ≡ true
        → EachIs c parts names no_roots y → FitsLocal p (without_moved names s) y (place_held l)
    at_local y l e v (inl k) =
        let r = z.local y l (sym (back parts c y k.held) ∙ e) v in
        record { bound = r.bound; is = k.value s ∙ r.is; fits = r.fits }
    at_local y l e v (inr g) = absurd (gone_has_none gone c parts no_roots y l same g e v)
