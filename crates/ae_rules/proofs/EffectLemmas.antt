-- The context after a judged statement is what the statement does.
use Rattle.std.proofs.Common.{◌≡◌, refl, sym, ap, ◌∙◌, ℕ, nat_eq, Bool, true, false, ◌||◌, not, if◌then◌else◌, List}
use Rattle.std.proofs.Common.{[], ◌∷◌, map, Option, None, Some}
use Rattle.std.specs.Prelude.{filter_map, option_map, is_some, length, zip}
use Rattle.std.specs.List.{cons_option}
use Rattle.ae_text.specs.declared.refusal.Spot.{Spot}
use Rattle.ae_text.specs.declared.refusal.Rule.TheVariants as rule
use Rattle.ae_tree.specs.declared.tree.NameAt.{NameAt}
use Rattle.ae_tree.specs.declared.tree.Ty.{Ty}
use Rattle.ae_tree.specs.declared.tree.Path.{Path}
use Rattle.ae_tree.specs.declared.tree.Class.{Class}
use Rattle.ae_tree.specs.declared.form.Kind.TheVariants as kind
use Rattle.ae_tree.specs.declared.form.Form.{Form}
use Rattle.ae_tree.specs.declared.form.Form.TheVariants as f
use Rattle.ae_tree.specs.Form.{form, bare_names}
use Rattle.ae_tree.specs.Names.{io}
use Rattle.ae_tree.specs.Plain.{Expression, Invocation, RightSide, Value, Taken, Zeros, Made, Returned, Lines, End}
use Rattle.ae_tree.specs.Plain.{Next, Definition, Code}
use Rattle.ae_tree.specs.Plain.{Action, Declares, Assigns, Stores, StoresAt, Calls, Chooses, ChoosesElse, Repeats}
use Rattle.ae_tree.specs.Plain.{Groups, Splits, Locks, Freezes, Shares, Prints, PrintsText, Asserts, Returns}
use Rattle.ae_rules.specs.declared.held.Held.TheVariants as held
use Rattle.ae_rules.specs.declared.held.GroupPerm.TheVariants as group
use Rattle.ae_rules.specs.Verdict.{◌>>=◌, found, in_turn, given}
use Rattle.ae_rules.specs.Forms.{is_object, is_ints}
use Rattle.ae_rules.specs.Lookups.{has_name, class_called, field_form, field_of}
use Rattle.ae_rules.specs.Types.{forms_type, groups_fit, is_group}
use Rattle.ae_rules.specs.Groups.{Groups as GroupsKnown}
use Rattle.ae_rules.specs.Groups.{known, wanted_need, needs_met, group_access, with_group, declare, may_split_all}
use Rattle.ae_rules.specs.Groups.{may_lock}
use Rattle.ae_rules.specs.Context.{Local, Context, is_visible, held_of, with_local, with_held, with_name_moved}
use Rattle.ae_rules.specs.Context.{closed, hold_alike, access}
use Rattle.ae_rules.specs.Walks.{Place, step, walk, write_access, owner_write_access}
use Rattle.ae_rules.specs.Expressions.{expression_spot, judge_value, is_value}
use Rattle.ae_rules.specs.Into.{name_into, into, made_into, unique_of}
use Rattle.ae_rules.specs.Calls.{Filled, MadeValue, no_roots, apart, fills, judge_new, Callee, callee_of, top_callee}
use Rattle.ae_rules.specs.Calls.{judge_callee, judge_call, Called, ParamSlot, group_in, slots, givens, to_slot}
use Rattle.ae_rules.specs.Statements.{judge_take, result_into, judge_right, judge_let, judge_assign, is_moved}
use Rattle.ae_rules.specs.Statements.{judge_store, judge_store_at, judge_group, holds_alone, judge_share, prints}
use Rattle.ae_rules.specs.Statements.{judge_return, groups_stay, end_block, while_split, while_locked}
use Rattle.ae_rules.specs.Statements.{judge_statement, judge_lines}
use Rattle.ae_rules.specs.Effects.{all_moved, form_along, form_at, callee_for, gone_name, call_effect, made_effect}
use Rattle.ae_rules.specs.Effects.{right_effect, assign_effect, store_effect, return_effect, effect, lines_effect}
use Rattle.ae_rules.specs.BlockLaws.{EffectsAreExact}
use Rattle.ae_rules.proofs.VerdictLemmas.{Yields, gives, next, asks}
use Rattle.ae_rules.proofs.SeenLemmas.{found_is}
use Rattle.ae_rules.proofs.MoveLemmas.{moves_by_its_text}
use Rattle.ae_rules.proofs.GroupLemmas.{declared_is}
use Rattle.ae_rules.proofs.GoneLemmas.{same_context, no_more, call_takes}

-- ---- where paths lead

step_form : (p : Code) (c : Context) (at : Spot) (x : NameAt) (from : Place)
    → Yields (λ (q : Place). field_of p from.form x.name ≡ Some q.form) (step p c at x from)
step_form p c at x from =
    next (found (field_of p from.form x.name) rule.UnknownField x.at) λ t e.
    next (access c at from.held) λ _ _.
    gives (found_is (field_of p from.form x.name) rule.UnknownField x.at t e)

steps_form : (p : Code) (c : Context) (at : Spot) (xs : List NameAt) (from : Place)
    → Yields (λ (q : Place). form_along p from.form xs ≡ Some q.form) (in_turn (step p c at) xs from)
steps_form p c at [] from = gives refl
steps_form p c at (x ∷ xs) from =
    next (step p c at x from) λ (s : Place) e.
    record {
      value = λ q h. ap (λ (o : Option Form). given o no_form (λ (u : Form). form_along p u xs))
          ((step_form p c at x from).value s e) ∙ (steps_form p c at xs s).value q h;
    }
  where
    no_form : Option Form
    no_form = None

pub walk_form : (p : Code) (c : Context) (path : Path) → Yields (λ (q : Place). form_at p c path ≡ Some q.form)
    (walk p c path)
walk_form p c path =
    next (found (c.local path.root.name) rule.UnknownName path.root.at) λ (l : Local) e.
    record {
      value = λ q h. ap (λ (o : Option Local). given o no_form (λ (z : Local). form_along p z.form path.steps))
          (found_is (c.local path.root.name) rule.UnknownName path.root.at l e)
          ∙ (steps_form p c path.root.at path.steps (record { form = l.form; held = l.held })).value q h;
    }
  where
    no_form : Option Form
    no_form = None

pub callee_is : (p : Code) (c : Context) (on : Option Path) (x : NameAt)
    → Yields (λ (m : Callee). callee_for p c on x ≡ Some m) (judge_callee p c on x)
callee_is p c None x = record { value = λ m e. found_is (top_callee p x.name) rule.UnknownMethod x.at m e }
callee_is p c (Some path) x =
    next (walk p c path) λ (w : Place) e.
    asks (is_object w.form) _ _ λ _.
    record {
      value = λ m h. ap (λ (o : Option Form). given o no_callee (λ (t : Form). callee_of p t x.name))
          ((walk_form p c path).value w e)
          ∙ found_is (callee_of p w.form x.name) rule.UnknownMethod x.at m h;
    }
  where
    no_callee : Option Callee
    no_callee = None

-- ---- calls and new objects

call_is : (p : Code) (c : Context) (i : Invocation) → Yields (λ (d : Called). d.after ≡ call_effect p c i)
    (judge_call p c i)
call_is p c i =
    next (judge_callee p c i.on i.method) λ (m : Callee) e.
    next (groups_fit (known c.group) (length m.method.groups) i.method.at i.groups) λ _ _.
    asks (nat_eq (length i.args) (length m.method.params)) _ _ λ _.
    let pairs : List (ParamSlot × Expression) = zip (slots p (group_in m i.groups) m.method) (givens i) in
    next (in_turn (to_slot p c) pairs no_roots) λ roots h.
    next (needs_met c.group i.method.at (map (wanted_need (group_in m i.groups)) m.method.needs)) λ _ _.
    gives (call_takes p c pairs roots h
    ∙ sym (ap (λ (o : Option Callee). given o c
    (λ (k : Callee). all_moved (filter_map gone_name (zip (slots p (group_in k i.groups) k.method) (givens i)))
    c)) ((callee_is p c i.on i.method).value m e)))

twice : (a b : Bool) (o : Option Local)
    → (if b then option_map no_more (if a then option_map no_more o else o) else
    (if a then option_map no_more o else o)) ≡ (if a || b then option_map no_more o else o)
twice true true None = refl
twice true true (Some l) = refl
twice true false o = refl
twice false b o = refl

moved_first : (o : Option ℕ) (xs : List ℕ) (c : Context) → all_moved xs (with_name_moved o c)
    ≡ all_moved (cons_option o xs) c
moved_first None xs c = refl
moved_first (Some x) xs c = same_context _ _ (λ y. twice (nat_eq x y) (has_name xs y) (c.local y)) refl

abbrev field_moves : Form × Expression → Option ℕ
field_moves y = name_into y.0 y.1

fill_is : (p : Code) (c : Context) (x : Form × Expression) (s : Filled)
    → Yields (λ (d : Filled). d.after ≡ with_name_moved (field_moves x) s.after) (fills p c x s)
fill_is p c x s =
    next (apart x.0 x.1 s.roots) λ _ _.
    next (into p c x.0 x.1) λ name e.
    gives (ap (λ o. with_name_moved o s.after) (moves_by_its_text p c x.0 x.1 name e))

fills_are : (p : Code) (c : Context) (xs : List (Form × Expression)) (s : Filled)
    → Yields (λ (d : Filled). d.after ≡ all_moved (filter_map field_moves xs) s.after) (in_turn (fills p c) xs s)
fills_are p c [] s = gives refl
fills_are p c (x ∷ xs) s =
    next (fills p c x s) λ (t : Filled) e.
    record {
      value = λ d h. (fills_are p c xs t).value d h ∙ ap (all_moved (filter_map field_moves xs))
          ((fill_is p c x s).value t e) ∙ moved_first (field_moves x) (filter_map field_moves xs) s.after;
    }

new_is : (p : Code) (c : Context) (x : NameAt) (gs : List NameAt) (args : List Expression)
    → Yields (λ (d : MadeValue). d.after ≡ made_effect p c x gs args) (judge_new p c x gs args)
new_is p c x gs args =
    next (found (class_called p x.name) rule.UnknownClass x.at) λ (k : Class) e.
    next (groups_fit (known c.group) (length k.groups) x.at gs) λ _ _.
    asks (nat_eq (length args) (length k.fields)) _ _ λ _.
    let pairs : List (Form × Expression) = zip (map (field_form k (bare_names gs)) k.fields) args in
    let empty : Filled = record { roots = no_roots; after = c } in
    next (in_turn (fills p c) pairs empty) λ d h.
    gives ((fills_are p c pairs empty).value d h
    ∙ sym (ap (λ (o : Option Class). given o c
    (λ (z : Class). all_moved (filter_map field_moves (zip (map (field_form z (bare_names gs)) z.fields) args))
    c)) (found_is (class_called p x.name) rule.UnknownClass x.at k e)))

pub right_is : (p : Code) (c : Context) (target : Form) (e : RightSide)
    → Yields (λ d. d ≡ right_effect p c target e) (judge_right p c target e)
right_is p c target (Value e) = next (into p c target e) λ name h. gives
    (ap (λ o. with_name_moved o c) (moves_by_its_text p c target e name h))
right_is p c target (Taken path at) =
    next (judge_take p c path at) λ value _.
    next (made_into value target at) λ _ _.
    gives refl
right_is p c target (Zeros e at) =
    next (is_value p c f.Int e) λ _ _.
    next (made_into (unique_of kind.Ints) target at) λ _ _.
    gives refl
right_is p c target (Made x gs args at) =
    next (judge_new p c x gs args) λ new e.
    next (made_into new.value target at) λ _ _.
    gives ((new_is p c x gs args).value new e)
right_is p c target (Returned i) =
    next (judge_call p c i) λ called e.
    next (result_into called.result target i.method.at) λ _ _.
    gives ((call_is p c i).value called e)

-- ---- statements without blocks

let_is : (p : Code) (c : Context) (t : Ty) (x : NameAt) (e : RightSide)
    → Yields (λ d. d ≡ with_local x.name (form t) (right_effect p c (form t) e)) (judge_let p c t x e)
let_is p c t x e =
    next (forms_type p (known c.group) false t) λ _ _.
    asks (not (is_visible c x.name)) _ _ λ _.
    next (judge_right p c (form t) e) λ d h.
    gives (ap (with_local x.name (form t)) ((right_is p c (form t) e).value d h))

assign_is : (p : Code) (c : Context) (x : NameAt) (e : RightSide)
    → Yields (λ d. d ≡ assign_effect p c x e) (judge_assign p c x e)
assign_is p c x e =
    next (found (c.local x.name) rule.UnknownName x.at) λ (l : Local) q.
    asks (not l.stays) _ _ λ _.
    next (judge_right p c l.form e) λ d h.
    gives (ap (with_held x.name (held_of l.form)) ((right_is p c l.form e).value d h)
    ∙ sym (ap (λ (o : Option Local). given o c
    (λ (z : Local). with_held x.name (held_of z.form) (right_effect p c z.form e)))
    (found_is (c.local x.name) rule.UnknownName x.at l q)))

store_is : (p : Code) (c : Context) (path : Path) (e : Expression) (at : Spot)
    → Yields (λ d. d ≡ store_effect p c path e) (judge_store p c path e at)
store_is p c path e at =
    next (walk p c path) λ (w : Place) q.
    next (owner_write_access p c path) λ _ _.
    next (into p c w.form e) λ name h.
    asks (not (is_moved name path.root.name)) _ _ λ _.
    gives (ap (λ o. with_name_moved o c) (moves_by_its_text p c w.form e name h)
    ∙ sym (ap (λ (o : Option Form). given o c (λ (t : Form). with_name_moved (name_into t e) c))
    ((walk_form p c path).value w q)))

store_at_is : (p : Code) (c : Context) (path : Path) (i e : Expression)
    → Yields (λ d. d ≡ c) (judge_store_at p c path i e)
store_at_is p c path i e =
    next (walk p c path) λ w _.
    asks (is_ints w.form) _ _ λ _.
    next (write_access c path.root.at w.held) λ _ _.
    next (is_value p c f.Int i) λ _ _.
    next (is_value p c f.Int e) λ _ _.
    gives refl

group_is_new : (c : Context) (g : NameAt)
    → Yields (λ d. d ≡ record c { group = with_group g.name group.Exclusive c.group }) (judge_group c g)
group_is_new c g =
    asks (not (is_some (c.local g.name))) _ _ λ _.
    next (declare g c.group) λ gs h.
    gives (ap (λ (hs : GroupsKnown). record c { group = hs }) (sym ((declared_is g c.group).value gs h).1))

share_is : (c : Context) (x g : NameAt) → Yields (λ d. d ≡ with_held x.name (held.Shared g.name) c) (judge_share c x g)
share_is c x g =
    next (holds_alone c x) λ _ _.
    next (is_group (known c.group) g) λ _ _.
    next (group_access c.group g.name g.at) λ _ _.
    gives refl

print_is : (c : Context) (at : Spot) → Yields (λ d. d ≡ c) (prints c at)
print_is c at = next (group_access c.group io at) λ _ _. gives refl

return_is : (p : Code) (m : Definition) (c : Context) (e : Expression) (at : Spot)
    → Yields (λ d. d ≡ return_effect m c e) (judge_return p m c e at)
return_is p m c e at =
    next (found m.result rule.TypeMismatch at) λ (t : Ty) q.
    next (into p c (form t) e) λ name h.
    gives (ap (λ o. with_name_moved o c) (moves_by_its_text p c (form t) e name h)
    ∙ sym (ap (λ (o : Option Ty). given o c (λ (z : Ty). with_name_moved (name_into (form z) e) c))
    (found_is m.result rule.TypeMismatch at t q)))

-- ---- blocks

block_is : (p : Code) (m : Definition) (b : Lines) (c start : Context)
    → Yields (λ d. d ≡ lines_effect p m b start) (judge_lines p m b start)
    → Yields (λ d. d ≡ closed c (lines_effect p m b start)) (judge_lines p m b start >>= end_block p c b)
block_is p m b c start inside =
    next (judge_lines p m b start) λ d e.
    next (groups_stay p c d b) λ _ _.
    gives (ap (closed c) (inside.value d e))

mutual
  effect_is : (p : Code) (m : Definition) (at : Spot) (a : Action) (c : Context)
      → Yields (λ d. d ≡ effect p m a c) (judge_statement p m at a c)
  effect_is p m at (Declares t x e) c = let_is p c t x e
  effect_is p m at (Assigns x e) c = assign_is p c x e
  effect_is p m at (Stores path e) c = store_is p c path e (expression_spot e)
  effect_is p m at (StoresAt path i e) c = store_at_is p c path i e
  effect_is p m at (Calls i) c = next (judge_call p c i) λ d e. gives ((call_is p c i).value d e)
  effect_is p m at (Chooses e n b) c =
      next (is_value p c f.Bool e) λ _ _.
      next (judge_lines p m b c >>= end_block p c b) λ d _.
      asks (hold_alike p c d c) _ _ λ _.
      gives refl
  effect_is p m at (ChoosesElse e n b k b') c =
      next (is_value p c f.Bool e) λ _ _.
      next (judge_lines p m b c >>= end_block p c b) λ d _.
      next (judge_lines p m b' c >>= end_block p c b') λ d' h.
      asks (hold_alike p c d d') _ _ λ _.
      gives ((block_is p m b' c c (lines_effect_is p m b' c)).value d' h)
  effect_is p m at (Repeats e n b) c =
      next (is_value p c f.Bool e) λ _ _.
      next (judge_lines p m b c >>= end_block p c b) λ d _.
      asks (hold_alike p c d c) _ _ λ _.
      gives refl
  effect_is p m at (Groups g) c = group_is_new c g
  effect_is p m at (Splits gs n b) c =
      next (may_split_all c.group gs) λ _ _.
      block_is p m b c (while_split gs c) (lines_effect_is p m b (while_split gs c))
  effect_is p m at (Locks g n b) c =
      next (may_lock c.group g) λ _ _.
      block_is p m b c (while_locked g.name c) (lines_effect_is p m b (while_locked g.name c))
  effect_is p m at (Freezes x) c = next (holds_alone c x) λ _ _. gives refl
  effect_is p m at (Shares x g) c = share_is c x g
  effect_is p m at (Prints e) c = next (judge_value p c e) λ _ _. print_is c at
  effect_is p m at (PrintsText s) c = print_is c at
  effect_is p m at (Asserts e) c = next (is_value p c f.Bool e) λ _ _. gives refl
  effect_is p m at (Returns e) c = return_is p m c e at

  lines_effect_is : (p : Code) (m : Definition) (b : Lines) (c : Context)
      → Yields (λ d. d ≡ lines_effect p m b c) (judge_lines p m b c)
  lines_effect_is p m End c = gives refl
  lines_effect_is p m (Next at a rest) c =
      next (judge_statement p m at a c) λ d e.
      record {
        value = λ x h. (lines_effect_is p m rest d).value x h ∙ ap (lines_effect p m rest)
            ((effect_is p m at a c).value d e);
      }

pub effects_are_exact : EffectsAreExact
effects_are_exact p m = (λ at a c d h. (effect_is p m at a c).value d h, λ b c d h. (lines_effect_is p m b c).value d h)
