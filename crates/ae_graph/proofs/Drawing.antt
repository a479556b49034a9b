-- Blocks with what their statements use, and their graphs.
use Rattle.std.proofs.Common.{◌≡◌, ◌≤◌, ℕ, nat_eq, Bool, true, false, List, [], ◌∷◌, ◌++◌, length, Option, None, Some}
use Rattle.std.proofs.Common.{zero, suc, arith, append-nil, refl, sym, ap, ◌∙◌, subst, if◌then◌else◌, take, get_or}
use Rattle.std.proofs.Common.{◌<◌, ◌+◌, append_assoc, map}
use Rattle.std.specs.Prelude.{find, option_map, is_some}
use Rattle.std.specs.List.{All, flat_map}
use Rattle.std.proofs.lemmas.List.Elements.{All-head, All-tail}
use Rattle.std.proofs.lemmas.Grind.{flat_map-append}
use Rattle.std.proofs.lemmas.List.Concat.{flat_map-cons}
use Rattle.ae_tree.specs.Plain.{Code, Definition}
use Rattle.ae_rules.specs.EdgeLists.{graph}
use Rattle.ae_tree.specs.Limits.{Within}
use Rattle.ae_tree.specs.WellShaped.{WellShaped}
use Rattle.ae_rules.specs.Verdict.{given}
use Rattle.ae_rules.specs.Lookups.{method_at}
use Rattle.ae_rules.specs.Judges.{Accepts}
use Rattle.ae_rules.specs.Blocks.{Opened, scene_uses, scene_graph, scene_numbered, scenes, graph_of}
use Rattle.ae_rules.specs.BlockLaws.{IsBelow, NamesAreBelow}
use Rattle.ae_uses.specs.Opened.{AreFootprints, AreOpenedFor}
use Rattle.ae_uses.specs.declared.opened.OpenedBlock.{OpenedBlock}
use Rattle.ae_graph.specs.Graph.{Graph, IsGraphOf}
use Rattle.ae_graph.specs.Drawn.{AreOfSome, IsDrawable, AreDrawable}
use Rattle.std.proofs.lemmas.List.{take_more, map-append}
use Rattle.ae_tree.specs.declared.tree.Method.{Method}
use Rattle.ae_tree.specs.Shown.{definition}
use Rattle.ae_graph.specs.GraphText.{block_text, text_of_block, text_of_method}
use Rattle.ae_graph.proofs.Exact.{graph_is_one}
use Rattle.ae_graph.proofs.Few.{IsFewIn, blocks_are_few}

-- opened blocks of a program within the limits can be drawn
pub opened_are_drawable : (p : Code) (xs : List Opened) (os : List OpenedBlock) → AreOpenedFor p xs os
    → All (IsBelow p) xs → All IsFewIn xs → AreDrawable p xs os
opened_are_drawable p [] [] a b f = tt
opened_are_drawable p [] (o ∷ os) a b f = a
opened_are_drawable p (x ∷ xs) [] a b f = a
opened_are_drawable p (x ∷ xs) (o ∷ os) a b f = (
  record { opened = a.0; below = All-head (IsBelow p) x xs b; few = All-head IsFewIn x xs f },
  opened_are_drawable p xs os a.1 (All-tail (IsBelow p) x xs b) (All-tail IsFewIn x xs f),
)

-- what is drawn is what some statements use
pub drawn_are_of_some : (p : Code) (x : Opened) (o : OpenedBlock) → IsDrawable p x o → AreOfSome o.uses
drawn_are_of_some p x o d = (scene_uses p x.1, (refl, d.opened.1.1))

-- what the statements of the block use, as many as it has
pub uses_are_drawn : (p : Code) (x : Opened) (o : OpenedBlock) → IsDrawable p x o
    → AreFootprints (scene_uses p x.1) (length o.uses) o.uses
uses_are_drawn p x o d = (refl, d.opened.1.1)

-- the graph by these uses is that of the block
pub graph_is_drawn : (p : Code) (x : Opened) (o : OpenedBlock) → IsDrawable p x o → (g : Graph)
    → IsGraphOf (scene_uses p x.1) (length o.uses) g → g ≡ scene_graph p x.1
graph_is_drawn p x o d g h = graph_is_one (length p.names) (scene_uses p x.1) d.below.graph g (length o.uses) h
    ∙ ap (graph (length p.names) (scene_uses p x.1)) d.opened.1.0

-- a block under a number, among those that are opened and those that are drawn
abbrev pub Matches : Code → Option OpenedBlock → List Opened → ℕ → Type 0
Matches p None xs n = scene_numbered n xs ≡ None
Matches p (Some o) xs n = (x : Opened) × (scene_numbered n xs ≡ Some x.1) × IsDrawable p x o

pub numbered_matches : (p : Code) (xs : List Opened) (os : List OpenedBlock) (n : ℕ) → AreDrawable p xs os
    → Matches p (find (λ (o : OpenedBlock). nat_eq o.no n) os) xs n
numbered_matches p [] [] n a = refl
numbered_matches p [] (o ∷ os) n a = absurd a
numbered_matches p (x ∷ xs) [] n a = absurd a
numbered_matches p (x ∷ xs) (o ∷ os) n a = by (nat_eq o.no n) refl (numbered_matches p xs os n a.1)
  where
    same : nat_eq o.no n ≡ nat_eq x.0 n
    same = ap (λ (k : ℕ). nat_eq k n) a.0.opened.0

    past : (t : Bool) → nat_eq o.no n ≡ t → scene_numbered n (x ∷ xs) ≡ (if t then Some x.1 else scene_numbered n xs)
    past t e = ap (λ b. if b then Some x.1 else scene_numbered n xs) (sym same ∙ e)

    later : nat_eq o.no n ≡ false → (r : Option OpenedBlock) → Matches p r xs n → Matches p r (x ∷ xs) n
    later e None h = past false e ∙ h
    later e (Some q) (y, f, d) = (y, past false e ∙ f, d)

    by : (t : Bool) → nat_eq o.no n ≡ t → Matches p (find (λ (q : OpenedBlock). nat_eq q.no n) os) xs n
        → Matches p (if t then Some o else find (λ (q : OpenedBlock). nat_eq q.no n) os) (x ∷ xs) n
    by true e h = (x, past true e, a.0)
    by false e h = later e (find (λ (q : OpenedBlock). nat_eq q.no n) os) h

-- a block under its number and with its graph is written as its text
pub text_is_drawn : (p : Code) (x : Opened) (o : OpenedBlock) → IsDrawable p x o → (g : Graph)
    → g ≡ scene_graph p x.1 → block_text o.no g ≡ text_of_block p x
text_is_drawn p x o d g h = ap (λ (n : ℕ). block_text n g) d.opened.0 ∙ ap (block_text x.0) h

-- the block that stands here can be drawn
pub drawable_at : (p : Code) (xs : List Opened) (os : List OpenedBlock) → AreDrawable p xs os → (i : ℕ)
    → (o : OpenedBlock) → i < length os → o ≡ get_or os i o
    → (x : Opened) × IsDrawable p x o × (take (suc i) xs ≡ take i xs ++ x ∷ [])
drawable_at p [] [] a i o l e = absurd (omega (arith, l))
drawable_at p [] (q ∷ os) a i o l e = absurd a
drawable_at p (x ∷ xs) [] a i o l e = absurd a
drawable_at p (x ∷ xs) (q ∷ os) a zero o l e = (x, subst (IsDrawable p x) (sym e) a.0, refl)
drawable_at p (x ∷ xs) (q ∷ os) a (suc i) o l e =
    let r = drawable_at p xs os a.1 i o (omega (arith, l)) e in
    (r.0, r.1, ap (λ (ys : List Opened). x ∷ ys) r.2)

-- all of them are taken
pub all_are_taken : (p : Code) (xs : List Opened) (os : List OpenedBlock) → AreDrawable p xs os → (i : ℕ)
    → length os ≤ i → take i xs ≡ xs
all_are_taken p [] [] a zero l = refl
all_are_taken p [] [] a (suc i) l = refl
all_are_taken p [] (o ∷ os) a i l = absurd a
all_are_taken p (x ∷ xs) [] a i l = absurd a
all_are_taken p (x ∷ xs) (o ∷ os) a zero l = absurd (omega (arith, l))
all_are_taken p (x ∷ xs) (o ∷ os) a (suc i) l = ap (λ (ys : List Opened). x ∷ ys)
    (all_are_taken p xs os a.1 i (omega (arith, l)))

one_more_at_the_end : (f : Opened → List ℕ) (xs : List Opened) (x : Opened) → flat_map f (xs ++ x ∷ [])
    ≡ flat_map f xs ++ f x
one_more_at_the_end f xs x = flat_map-append f xs (x ∷ [])
    ∙ ap (λ (t : List ℕ). flat_map f xs ++ t) (flat_map-cons f x [] ∙ append-nil (f x))

-- one more text behind those of the first blocks
pub texts_one_more : (p : Code) (old now new : List ℕ) (xs ys : List Opened) (x : Opened) → ys ≡ xs ++ x ∷ []
    → now ≡ old ++ flat_map (text_of_block p) xs → new ≡ now ++ text_of_block p x
    → new ≡ old ++ flat_map (text_of_block p) ys
texts_one_more p old now new xs ys x e f h =
    h ∙ ap (λ (t : List ℕ). t ++ text_of_block p x) f
    ∙ append_assoc old (flat_map (text_of_block p) xs) (text_of_block p x)
    ∙ ap (λ (t : List ℕ). old ++ t) (sym (one_more_at_the_end (text_of_block p) xs x))
    ∙ ap (λ (zs : List Opened). old ++ flat_map (text_of_block p) zs) (sym e)

-- ---- the blocks of a method

-- the blocks of a method of an accepted program within the limits can be drawn
pub method_is_drawable : NamesAreBelow → (p : Code) → WellShaped p → Accepts p → Within p → (k : ℕ) (m : Definition)
    → method_at p k ≡ Some m → (os : List OpenedBlock) → AreOpenedFor p (scenes p m) os → AreDrawable p (scenes p m) os
method_is_drawable below p shaped a w k m e os h = opened_are_drawable p (scenes p m) os h
    (below p shaped a k m e).1 (blocks_are_few p w k m e)

-- what stands under this number among them
pub drawn_under : (p : Code) (xs : List Opened) (os : List OpenedBlock) (n : ℕ) → AreDrawable p xs os
    → (o : OpenedBlock) → find (λ (q : OpenedBlock). nat_eq q.no n) os ≡ Some o
    → (x : Opened) × (scene_numbered n xs ≡ Some x.1) × IsDrawable p x o
drawn_under p xs os n a o e = subst (λ (r : Option OpenedBlock). Matches p r xs n) e (numbered_matches p xs os n a)

-- a block of a method has the graph of what stands under its number there
pub graph_in_method : (p : Code) (k n : ℕ) (m : Definition) → method_at p k ≡ Some m
    → graph_of p k n ≡ option_map (scene_graph p) (scene_numbered n (scenes p m))
graph_in_method p k n m e = ap (λ (o : Option Definition). given o None
    (λ (d : Definition). option_map (scene_graph p) (scene_numbered n (scenes p d)))) e

-- a number of none of these has no graph
pub no_graph_without_block : (p : Code) (xs : List Opened) (os : List OpenedBlock) (n : ℕ) → AreDrawable p xs os
    → find (λ (q : OpenedBlock). nat_eq q.no n) os ≡ None
    → is_some (option_map (scene_graph p) (scene_numbered n xs)) ≡ true → ⊥
no_graph_without_block p xs os n a f s =
    let h : scene_numbered n xs ≡ None =
    subst (λ (r : Option OpenedBlock). Matches p r xs n) f (numbered_matches p xs os n a) in
    let g : option_map (scene_graph p) (scene_numbered n xs) ≡ None = ap (option_map (scene_graph p)) h in
    absurd (cc)

-- ---- the texts of methods

-- one more text behind those of the first methods
pub methods_one_more : (p : Code) (now new : List ℕ) (ms : List Method) (i : ℕ) (m : Method) → i < length ms
    → m ≡ get_or ms i m → now ≡ flat_map (text_of_method p) (map definition (take i ms))
    → new ≡ now ++ text_of_method p (definition m)
    → new ≡ flat_map (text_of_method p) (map definition (take (i + 1) ms))
methods_one_more p now new ms i m l e f h =
    let q : map definition (take (i + 1) ms) ≡ map definition (take i ms) ++ definition m ∷ [] =
    ap (map definition) (take_more ms i m l ∙ ap (λ (x : Method). take i ms ++ x ∷ []) (sym e))
    ∙ map-append definition (take i ms) (m ∷ []) in
    h ∙ ap (λ (t : List ℕ). t ++ text_of_method p (definition m)) f
    ∙ sym (flat_map-append (text_of_method p) (map definition (take i ms)) (definition m ∷ [])
    ∙ ap (λ (t : List ℕ). flat_map (text_of_method p) (map definition (take i ms)) ++ t)
    (flat_map-cons (text_of_method p) (definition m) [] ∙ append-nil (text_of_method p (definition m))))
    ∙ ap (flat_map (text_of_method p)) (sym q)
