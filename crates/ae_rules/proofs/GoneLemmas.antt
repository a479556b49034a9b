-- What a judged call takes: the names that it is given for good, and nothing else.
use Rattle.std.proofs.Common.{◌≡◌, refl, sym, ap, ◌∙◌, subst, ℕ, nat_eq, Bool, true, false, ◌&&◌, ◌||◌, not}
use Rattle.std.proofs.Common.{if◌then◌else◌, List, [], ◌∷◌, ◌++◌, Option, None, Some}
use Rattle.std.specs.Prelude.{filter_map, option_map, ⊤}
use Rattle.std.specs.List.{cons_option}
use Rattle.std.proofs.lemmas.Bool.{eqb-true, and_from, not-true}
use mathlib.Core.Path.{fun_ext}
use Rattle.ae_text.specs.declared.refusal.Spot.{Spot}
use Rattle.ae_text.specs.declared.refusal.Rule.TheVariants as rule
use Rattle.ae_tree.specs.declared.tree.NameAt.{NameAt}
use Rattle.ae_tree.specs.declared.tree.Path.{Path}
use Rattle.ae_tree.specs.declared.form.Perm.{Perm}
use Rattle.ae_tree.specs.declared.form.Perm.TheVariants as perm
use Rattle.ae_tree.specs.declared.form.Kind.{Kind}
use Rattle.ae_tree.specs.declared.form.Form.{Form}
use Rattle.ae_tree.specs.declared.form.Form.TheVariants as f
use Rattle.ae_tree.specs.Plain.{Expression, Code}
use Rattle.ae_rules.specs.declared.held.Held.{Held}
use Rattle.ae_rules.specs.declared.held.Held.TheVariants as held
use Rattle.ae_rules.specs.Verdict.{Holds, ◌>>=◌, found, in_turn, given}
use Rattle.ae_rules.specs.Shares.{Share, splits, joins}
use Rattle.ae_rules.specs.Forms.{same_perm, is_object_of, is_unique}
use Rattle.ae_rules.specs.Lookups.{has_name, is_empty}
use Rattle.ae_rules.specs.Context.{Local, Context, same_held, held_in, with_held}
use Rattle.ae_rules.specs.Walks.{Place, walk, step, is_name}
use Rattle.ae_rules.specs.Expressions.{expression_spot, is_value}
use Rattle.ae_rules.specs.Into.{Source, Null, From, source, moves, source_moves, name_into}
use Rattle.ae_rules.specs.Calls.{Roots, no_roots, with_root, meets, root_apart, ParamSlot, to_unique, to_param}
use Rattle.ae_rules.specs.Calls.{path_to_param, source_to_param, to_form, to_slot, LentPart, is_part, lent_part_of}
use Rattle.ae_rules.specs.Calls.{argument_parts, given_back, after_call}
use Rattle.ae_rules.specs.Laws.{none_of, none_away}
use Rattle.ae_rules.specs.Effects.{all_moved, gone_name}
use Rattle.ae_rules.proofs.VerdictLemmas.{Yields, gives, next, asks, always}
use Rattle.ae_rules.proofs.SeenLemmas.{found_is}
use Rattle.ae_rules.proofs.CallLemmas.{calls_give_back, given_away_is_gone}
use Rattle.ae_rules.proofs.KeepLemmas.{keeps_after_call}
use Rattle.ae_rules.proofs.from_text.Basics.{first_of_neither, second_of_neither}
use Rattle.std.proofs.lemmas.Option.{same_Some}

-- contexts with the same locals and the same groups are one
pub same_context : (c d : Context) → ((y : ℕ) → c.local y ≡ d.local y) → c.group ≡ d.group → c ≡ d
same_context c d h k = λ i. record { local = fun_ext h i; group = k i }

-- ---- one argument

-- this is no part of that local
abbrev none_at : Option LentPart → ℕ → Bool
none_at o y = given o true (λ (x : LentPart). not (nat_eq x.root y))

abbrev gone_part : ℕ → LentPart
gone_part y = record { root = y; need = perm.Unique; away = true }

-- what a judged argument says of the roots, and of the name that it gives for good
record Given (c : Context) (t : Form) (away : Bool) (o : Option Source) (name : Option ℕ) (before after : Roots)
    : Type 0 where
  used : (y : ℕ) → after.used y ≡ false → (before.used y ≡ false) × (none_at (lent_part_of c t away o) y ≡ true)
  gone : (n : ℕ) → (if away then name else None) ≡ Some n → (before.used n ≡ false)
      × (lent_part_of c t away o ≡ Some (gone_part n)) × (held_in c n ≡ held.Unique)

no_name : (b : Bool) (o : Option ℕ) (n : ℕ) → o ≡ None → (if b then o else None) ≡ Some n → ⊥
no_name true o n e h = cc
no_name false o n e h = cc

-- an argument without a root
no_root : (c : Context) (t : Form) (away : Bool) (o : Option Source) (name : Option ℕ) (r : Roots)
    → lent_part_of c t away o ≡ None → name ≡ None → Given c t away o name r r
no_root c t away o name r e k = record {
  used = λ y h. (h, ap (λ (x : Option LentPart). none_at x y) e);
  gone = λ n h. absurd (no_name away name n k h);
}

no_part_if : (b : Bool) (x : LentPart) (y : ℕ) → nat_eq x.root y ≡ false → none_at (if b then Some x else None) y ≡ true
no_part_if true x y e = ap not e
no_part_if false x y e = refl

-- what is held of a name without steps
pub name_held : (p : Code) (c : Context) (path : Path) → is_name path ≡ true
    → Yields (λ (w : Place). held_in c path.root.name ≡ w.held) (walk p c path)
name_held p c path e =
    next (found (c.local path.root.name) rule.UnknownName path.root.at) λ (l : Local) h.
    by_steps path.steps l e (ap (λ (o : Option Local). given o held.None (λ (x : Local). x.held))
    (found_is (c.local path.root.name) rule.UnknownName path.root.at l h))
  where
    by_steps : (xs : List NameAt) (l : Local) → is_empty xs ≡ true → held_in c path.root.name ≡ l.held
        → Yields (λ (w : Place). held_in c path.root.name ≡ w.held)
        (in_turn (step p c path.root.at) xs (record { form = l.form; held = l.held }))
    by_steps [] l e h = gives h
    by_steps (x ∷ xs) l e h = absurd (cc)

-- what a unique parameter is given for good is a name that is held Unique
gone_held : (named : Bool) (h : Held) (at : Spot) → Yields (λ _. (named ≡ true) × (h ≡ held.Unique))
    (to_unique true named h at)
gone_held named held.Unique at = asked named refl
  where
    asked : (b : Bool) → named ≡ b → Yields (λ _. (named ≡ true) × (held.Unique ≡ held.Unique))
        (to_unique true named held.Unique at)
    asked true e = always (e, refl)
    asked false e = record { value = λ x h. absurd (cc) }
gone_held named (held.Split n) at = record { value = λ x h. absurd (cc) }
gone_held named held.Immutable at = record { value = λ x h. absurd (cc) }
gone_held named held.Lent at = record { value = λ x h. absurd (cc) }
gone_held named (held.Shared g) at = record { value = λ x h. absurd (cc) }
gone_held named (held.Inner g) at = record { value = λ x h. absurd (cc) }
gone_held named held.None at = record { value = λ x h. absurd (cc) }

part_is_gone : (h : Held) (root : ℕ) → h ≡ held.Unique
    → (if is_part perm.Unique && same_held held.Unique h then Some (gone_part root) else None) ≡ Some (gone_part root)
part_is_gone h root e = ap (λ (x : Held). if is_part perm.Unique && same_held held.Unique x then Some
    (gone_part root) else None) e

abbrev no_number : Option ℕ
no_number = None

-- the name that goes for good with a path, by the parameter's permission
path_gone : (p : Code) (c : Context) (q : Perm) (k : Kind) (away : Bool) (path : Path) (r : Roots) (w : Place) (t : ⊤)
    (at : Spot)
    → walk p c path ≡ Holds w → meets (is_unique (f.Object q k)) path.root.name r ≡ false
    → to_param q away (is_name path) w.held at ≡ Holds t
    → (n : ℕ) → (if away then moves q path else None) ≡ Some n
    → (r.used n ≡ false) × (lent_part_of c (f.Object q k) away (Some (From path)) ≡ Some (gone_part n))
    × (held_in c n ≡ held.Unique)
path_gone p c perm.Unique k true path r w t at e m h n i =
    let g = (gone_held (is_name path) w.held at).value t h in
    let u : held_in c path.root.name ≡ held.Unique = (name_held p c path g.0).value w e ∙ g.1 in
    let s : path.root.name ≡ n = same_Some path.root.name n i in
    subst (λ (x : ℕ). (r.used x ≡ false)
    × (lent_part_of c (f.Object perm.Unique k) true (Some (From path)) ≡ Some (gone_part x))
    × (held_in c x ≡ held.Unique)) s (second_of_neither (r.alone path.root.name) (r.used path.root.name) m, part_is_gone (held_in c path.root.name) path.root.name u, u)
path_gone p c perm.Immutable k away path r w t at e m h n i = absurd (no_name away no_number n refl i)
path_gone p c perm.Lent k away path r w t at e m h n i = absurd (no_name away no_number n refl i)
path_gone p c (perm.Shared g) k away path r w t at e m h n i = absurd (no_name away no_number n refl i)
path_gone p c perm.Unique k false path r w t at e m h n i = absurd (cc)

root_given : (unique : Bool) (path : Path) (at : Spot) (r : Roots)
    → Yields (λ s. (meets unique path.root.name r ≡ false) × (with_root unique path.root.name r ≡ s))
    (root_apart unique path at r)
root_given unique path at r = asks (not (meets unique path.root.name r)) _ _ λ h. gives
    (not-true (meets unique path.root.name r) h, refl)

path_given : (p : Code) (c : Context) (q : Perm) (k : Kind) (away : Bool) (path : Path) (at : Spot) (r : Roots)
    → Yields (Given c (f.Object q k) away (Some (From path)) (moves q path) r) (path_to_param p c q k away path at r)
path_given p c q k away path at r =
    next (walk p c path) λ w e.
    asks (is_object_of k w.form) _ _ λ _.
    next (root_apart (is_unique (f.Object q k)) path at r) λ s h.
    next (to_param q away (is_name path) w.held at) λ t i.
    let g = (root_given (is_unique (f.Object q k)) path at r).value s h in
    gives (record {
      used = λ y u. let v : (nat_eq path.root.name y || r.used y) ≡ false = ap (λ (z : Roots). z.used y) g.1 ∙ u in (second_of_neither (nat_eq path.root.name y) (r.used y) v, no_part_if (is_part q && same_held held.Unique (held_in c path.root.name)) _ y (first_of_neither (nat_eq path.root.name y) (r.used y) v));
      gone = path_gone p c q k away path r w t at e g.0 i;
    })

source_given : (p : Code) (c : Context) (q : Perm) (k : Kind) (away : Bool) (s : Source) (at : Spot) (r : Roots)
    → Yields (Given c (f.Object q k) away (Some s) (source_moves q s) r) (source_to_param p c q k away s at r)
source_given p c q k away Null at r = gives (no_root c (f.Object q k) away (Some Null) None r refl refl)
source_given p c q k away (From path) at r = path_given p c q k away path at r

object_given : (p : Code) (c : Context) (q : Perm) (k : Kind) (away : Bool) (o : Option Source) (at : Spot) (r : Roots)
    → Yields (Given c (f.Object q k) away o (given o None (source_moves q)) r)
    (found o rule.TypeMismatch at >>= λ s. source_to_param p c q k away s at r)
object_given p c q k away None at r = record { value = λ x h. absurd (cc) }
object_given p c q k away (Some s) at r = source_given p c q k away s at r

form_given : (p : Code) (c : Context) (t : Form) (away : Bool) (e : Expression) (r : Roots)
    → Yields (Given c t away (source e) (name_into t e) r) (to_form p c t away e r)
form_given p c f.Int away e r = next (is_value p c f.Int e) λ _ _. gives
    (no_root c f.Int away (source e) None r refl refl)
form_given p c f.Bool away e r = next (is_value p c f.Bool e) λ _ _. gives
    (no_root c f.Bool away (source e) None r refl refl)
form_given p c (f.Object q k) away e r = object_given p c q k away (source e) (expression_spot e) r

-- ---- all arguments

-- a part that takes this local for good, and no part of it before
record GoneAt (c : Context) (ps : List LentPart) (y : ℕ) : Type 0 where
  before : List LentPart
  after : List LentPart
  split : ps ≡ before ++ gone_part y ∷ after
  apart : none_of before y ≡ true
  unique : held_in c y ≡ held.Unique

gone_later : (c : Context) (o : Option LentPart) (ps : List LentPart) (y : ℕ) → none_at o y ≡ true → GoneAt c ps y
    → GoneAt c (cons_option o ps) y
gone_later c None ps y e g = g
gone_later c (Some x) ps y e g = record {
  before = x ∷ g.before;
  after = g.after;
  split = ap (λ (zs : List LentPart). x ∷ zs) g.split;
  apart = and_from (not (nat_eq x.root y)) (none_of g.before y) e g.apart;
  unique = g.unique;
}

abbrev one_part : Context → ParamSlot × Expression → Option LentPart
one_part c x = lent_part_of c x.0.form x.0.away (source x.1)

abbrev IsGone : Context → List (ParamSlot × Expression) → Roots → ℕ → Type 0
IsGone c xs r y = GoneAt c (argument_parts c xs) y × (r.used y ≡ false)

find_gone : (p : Code) (c : Context) (xs : List (ParamSlot × Expression)) (r : Roots) (y : ℕ)
    → has_name (filter_map gone_name xs) y ≡ true
    → Yields (λ _. IsGone c xs r y) (in_turn (to_slot p c) xs r)
find_gone p c [] r y h = absurd (cc)
find_gone p c (x ∷ xs) r y h =
    next (to_slot p c x r) λ s e.
    let g = (form_given p c x.0.form x.0.away x.1 r).value s e in
    by_name s g (find_gone p c xs s y) (gone_name x) refl h
  where
    later : (s : Roots) → Given c x.0.form x.0.away (source x.1) (name_into x.0.form x.1) r s
        → Yields (λ _. IsGone c xs s y) (in_turn (to_slot p c) xs s)
        → Yields (λ _. IsGone c (x ∷ xs) r y) (in_turn (to_slot p c) xs s)
    later s g z = record {
      value = λ t e. let k = z.value t e in let u =
          g.used y k.1 in (gone_later c (one_part c x) (argument_parts c xs) y u.1 k.0, u.0);
    }

    here : (s : Roots) → Given c x.0.form x.0.away (source x.1) (name_into x.0.form x.1) r s → (n : ℕ)
        → gone_name x ≡ Some n → IsGone c (x ∷ xs) r n
    here s g n e =
        let k = g.gone n e in (
          record {
            before = [];
            after = argument_parts c xs;
            split =
                ap (λ (o : Option LentPart). cons_option o (argument_parts c xs)) k.1;
            apart = refl;
            unique = k.2;
          },
          k.0,
        )

    by_name : (s : Roots) → Given c x.0.form x.0.away (source x.1) (name_into x.0.form x.1) r s
        → (has_name (filter_map gone_name xs) y ≡ true → Yields (λ _. IsGone c xs s y) (in_turn (to_slot p c) xs s))
        → (o : Option ℕ) → gone_name x ≡ o → has_name (cons_option o (filter_map gone_name xs)) y ≡ true
        → Yields (λ _. IsGone c (x ∷ xs) r y) (in_turn (to_slot p c) xs s)
    by_name s g z None e h = later s g (z h)
    by_name s g z (Some n) e h = by_test (nat_eq n y) refl h
      where
        by_test : (b : Bool) → nat_eq n y ≡ b → (b || has_name (filter_map gone_name xs) y) ≡ true
            → Yields (λ _. IsGone c (x ∷ xs) r y) (in_turn (to_slot p c) xs s)
        by_test true k h = always (subst (IsGone c (x ∷ xs) r) (eqb-true n y k) (here s g n e))
        by_test false k h = later s g (z h)

-- ---- what is not gone

-- this is no part of that local that is gone
abbrev none_away_at : Option LentPart → ℕ → Bool
none_away_at o y = given o true (λ (x : LentPart). not (nat_eq x.root y && x.away))

not_named : (o : Option ℕ) (xs : List ℕ) (y : ℕ) → has_name (cons_option o xs) y ≡ false
    → (given o false (λ n. nat_eq n y) ≡ false) × (has_name xs y ≡ false)
not_named None xs y e = (refl, e)
not_named (Some n) xs y e = (
  first_of_neither (nat_eq n y) (has_name xs y) e,
  second_of_neither (nat_eq n y)
      (has_name xs y) e,
)

stays_if : (b away u : Bool) (root y : ℕ) (q : Perm) → (away ≡ true → u ≡ true → nat_eq root y ≡ false)
    → none_away_at (if b then Some (record { root = root; need = q; away = away && u }) else None) y ≡ true
stays_if false away u root y q h = refl
stays_if true false u root y q h = no_and (nat_eq root y)
  where
    no_and : (b : Bool) → not (b && false) ≡ true
    no_and true = refl
    no_and false = refl
stays_if true true false root y q h = no_and (nat_eq root y)
  where
    no_and : (b : Bool) → not (b && false) ≡ true
    no_and true = refl
    no_and false = refl
stays_if true true true root y q h = ap (λ b. not (b && true)) (h refl refl)

gone_is_named : (q : Perm) (away : Bool) (path : Path) (y : ℕ) → given (if away then moves q path else None) false
    (λ n. nat_eq n y) ≡ false
    → away ≡ true → same_perm perm.Unique q ≡ true → nat_eq path.root.name y ≡ false
gone_is_named perm.Unique true path y e h k = e
gone_is_named perm.Unique false path y e h k = absurd (cc)
gone_is_named perm.Immutable away path y e h k = absurd (cc)
gone_is_named perm.Lent away path y e h k = absurd (cc)
gone_is_named (perm.Shared g) away path y e h k = absurd (cc)

object_stays : (c : Context) (q : Perm) (k : Kind) (away : Bool) (o : Option Source) (y : ℕ)
    → given (if away then given o None (source_moves q) else None) false (λ n. nat_eq n y) ≡ false
    → none_away_at (lent_part_of c (f.Object q k) away o) y ≡ true
object_stays c q k away None y e = refl
object_stays c q k away (Some Null) y e = refl
object_stays c q k away (Some (From path)) y e
    = stays_if (is_part q && same_held held.Unique (held_in c path.root.name)) away
    (same_perm perm.Unique q) path.root.name y q (gone_is_named q away path y e)

form_stays : (c : Context) (t : Form) (away : Bool) (e : Expression) (y : ℕ)
    → given (if away then name_into t e else None) false (λ n. nat_eq n y) ≡ false
    → none_away_at (lent_part_of c t away (source e)) y ≡ true
form_stays c f.Int away e y h = refl
form_stays c f.Bool away e y h = refl
form_stays c (f.Object q k) away e y h = object_stays c q k away (source e) y h

none_away_both : (o : Option LentPart) (ps : List LentPart) (y : ℕ) → none_away_at o y ≡ true → none_away ps y ≡ true
    → none_away (cons_option o ps) y ≡ true
none_away_both None ps y e h = h
none_away_both (Some x) ps y e h = and_from (not (nat_eq x.root y && x.away)) (none_away ps y) e h

stays_all : (c : Context) (xs : List (ParamSlot × Expression)) (y : ℕ) → has_name (filter_map gone_name xs) y ≡ false
    → none_away (argument_parts c xs) y ≡ true
stays_all c [] y e = refl
stays_all c (x ∷ xs) y e =
    let k = not_named (gone_name x) (filter_map gone_name xs) y e
    in none_away_both (one_part c x) (argument_parts c xs) y (form_stays c x.0.form x.0.away x.1 y k.0)
    (stays_all c xs y k.1)

-- ---- the context after a call

-- the local, and nothing held of it
abbrev pub no_more : Local → Local
no_more l = record l { held = held.None }

moved_if : (b : Bool) (o q : Option Local) → (b ≡ true → q ≡ option_map no_more o) → (b ≡ false → q ≡ o)
    → q ≡ (if b then option_map no_more o else o)
moved_if true o q h k = h refl
moved_if false o q h k = k refl

-- where nothing is held after, the local is as before but for that
nothing_after : (c d : Context) (y : ℕ) (o : Option Local) → c.local y ≡ o → held_in c y ≡ held.Unique
    → held_in d y ≡ held.None
    → ((l : Local) → c.local y ≡ Some l → (h : Held) × (d.local y ≡ Some (record l { held = h })))
    → d.local y ≡ option_map no_more o
nothing_after c d y None e u n k =
    absurd (unique_is_something (sym (ap (λ (x : Option Local). given x held.None (λ (l : Local). l.held)) e) ∙ u))
  where
    unique_is_something : held.None ≡ held.Unique → ⊥
    unique_is_something h = cc
nothing_after c d y (Some l) e u n k =
    let r = k l e in
    let h : r.0 ≡ held.None = sym (ap (λ (x : Option Local). given x held.None (λ (z : Local). z.held)) r.1) ∙ n in
    r.1 ∙ ap (λ (x : Held). Some (record l { held = x })) h

keeps_groups : (xs : List LentPart) (c : Context) → (after_call xs c).group ≡ c.group
keeps_groups [] c = refl
keeps_groups (x ∷ xs) c = by_share (λ d. keeps_groups xs d) (splits (held_in c x.root) x.need)
  where
    by_whole : (o : Option Held) (d : Context) → (given o d (λ w. with_held x.root w d)).group ≡ d.group
    by_whole None d = refl
    by_whole (Some w) d = refl

    by_away : (b : Bool) (share : Share) (d : Context)
        → (if b then d else given (joins (held_in d x.root) share.0) d (λ w. with_held x.root w d)).group ≡ d.group
    by_away true share d = refl
    by_away false share d = by_whole (joins (held_in d x.root) share.0) d

    by_share : ((d : Context) → (after_call xs d).group ≡ d.group) → (o : Option Share)
        → (given o (after_call xs c) (λ share. given_back x share (after_call xs (with_held x.root share.1 c)))).group
        ≡ c.group
    by_share later None = later c
    by_share later (Some share) = by_away x.away share (after_call xs (with_held x.root share.1 c))
        ∙ later (with_held x.root share.1 c)

taken_for_good : (c : Context) (ps : List LentPart) (y : ℕ) → GoneAt c ps y → (after_call ps c).local y
    ≡ option_map no_more (c.local y)
taken_for_good c ps y g =
    let n : held_in (after_call ps c) y
    ≡ held.None = subst (λ (zs : List LentPart). held_in (after_call zs c) y ≡ held.None) (sym g.split)
    (given_away_is_gone g.before g.after (gone_part y) c g.apart refl refl g.unique)
    in nothing_after c (after_call ps c) y (c.local y) refl g.unique n ((keeps_after_call ps c).local y)

-- what a judged call is given for good is held Unique
pub gone_is_unique : (p : Code) (c : Context) (xs : List (ParamSlot × Expression)) (roots : Roots) (y : ℕ)
    → in_turn (to_slot p c) xs no_roots ≡ Holds roots → has_name (filter_map gone_name xs) y ≡ true
    → held_in c y ≡ held.Unique
gone_is_unique p c xs roots y e h = ((find_gone p c xs no_roots y h).value roots e).0.unique

-- after a judged call the names that were given for good hold nothing, and all else is as before
pub call_takes : (p : Code) (c : Context) (xs : List (ParamSlot × Expression)) (roots : Roots)
    → in_turn (to_slot p c) xs no_roots ≡ Holds roots
    → after_call (argument_parts c xs) c ≡ all_moved (filter_map gone_name xs) c
call_takes p c xs roots e = same_context (after_call (argument_parts c xs) c) (all_moved (filter_map gone_name xs) c)
    (λ y. moved_if (has_name (filter_map gone_name xs) y) (c.local y) ((after_call (argument_parts c xs) c).local y)
    (λ h. taken_for_good c (argument_parts c xs) y ((find_gone p c xs no_roots y h).value roots e).0)
    (λ h. calls_give_back (argument_parts c xs) c y (stays_all c xs y h)))
    (keeps_groups (argument_parts c xs) c)
