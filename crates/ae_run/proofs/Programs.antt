-- The one method of an accepted program of the forms that run: its statements, its uses and its graph.
use Rattle.std.proofs.Common.{◌≡◌, ℕ, suc, ℤ, nat_eq, if◌then◌else◌, List, [], ◌∷◌, map}
use Rattle.std.proofs.Common.{length, get_or, Option, Some, IsSome, refl, ap, sym, ◌∙◌, arith, subst}
use Rattle.std.proofs.Common.{add-one, false}
use Rattle.std.specs.Prelude.{slice_get, is_some, option_map}
use Rattle.std.proofs.lemmas.List.{length-map, get_or-map}
use Rattle.std.proofs.lemmas.List.Elements.{All-head}
use Rattle.ae_tree.specs.declared.tree.Block.{out-Block}
use Rattle.ae_tree.specs.declared.tree.Stmt.{Stmt}
use Rattle.ae_tree.specs.declared.tree.Method.{Method}
use Rattle.ae_tree.specs.declared.tree.Program.{Program}
use Rattle.ae_tree.specs.Plain.{Lines, End, Definition, Code}
use Rattle.ae_tree.specs.Shown.{lines_from, lines-out, definition, code}
use Rattle.ae_tree.specs.Limits.{statement_count}
use Rattle.ae_tree.specs.WellShaped.{WellShaped}
use Rattle.ae_tree.specs.Built.{Built}
use Rattle.ae_rules.specs.Verdict.{given}
use Rattle.ae_rules.specs.Lookups.{method_at}
use Rattle.ae_rules.specs.Edges.{BlockUses, Preds}
use Rattle.ae_rules.specs.EdgeLists.{preds, graph}
use Rattle.ae_rules.specs.Uses.{nothing}
use Rattle.ae_rules.specs.Judges.{start, Accepts}
use Rattle.ae_rules.specs.Blocks.{body_scene, scenes, scenes_among, scene_numbered, scene_uses}
use Rattle.ae_rules.specs.Blocks.{scene_graph, graph_of}
use Rattle.ae_rules.specs.BlockLaws.{IsBelow, NamesAreBelow}
use Rattle.ae_graph.specs.Graph.{Graph, IsGraphOf}
use Rattle.ae_meaning.specs.Meaning.{today_many, begin, meaning_of_run, main_body, today_seq}
use Rattle.ae_meaning.specs.Frame.{ReadsItsUses, ChangesItsWrites}
use Rattle.ae_run.specs.Main.{main_lines, main_uses, IsMainGraph, main_run}
use Rattle.ae_run.proofs.from_text.Basics.{option_holds_one}
use Rattle.ae_run.proofs.Deeds.{Tells, lines_tell}
use Rattle.ae_run.proofs.from_graph.Drawing.{graph_in_method}
use Rattle.ae_run.proofs.from_graph.Exact.{all_below, length_below, number_below}
use Rattle.ae_run.proofs.from_meaning.Judged.{body_judged}
use Rattle.ae_run.proofs.from_meaning.Fits.{main_is}
use Rattle.ae_run.proofs.from_meaning.Rules.{seq-ended}

-- ---- the one method

method_is : (p : Code) (b : Built p) → method_at p 0 ≡ Some b.method
method_is p b = ap (λ (ms : List Definition). slice_get ms 0) b.methods

body_is : (p : Code) (b : Built p) → main_lines p ≡ b.method.body
body_is p b = ap (λ (o : Option Definition). given o End (λ (m : Definition). m.body)) (method_is p b)

-- The program's run in source order is that of the one method.
pub seq_is : (p : Code) → Built p → (ints : List ℤ) (fuel : ℕ) → today_seq p ints fuel ≡ meaning_of_run (main_run p)
seq_is p b ints fuel
    = seq-ended p ints fuel ∙ ap (λ (l : Lines). meaning_of_run (today_many l begin))
    (ap main_body b.methods ∙ main_is b.method b.is_main.class b.is_main.is_named ∙ sym (body_is p b))

-- The laws of the meaning tell what the statements of the one method do with what they use.
pub main_tells : ReadsItsUses → ChangesItsWrites → (p : Code) → Accepts p → Built p → Tells (main_lines p) (main_uses p)
main_tells reads changes p a b =
    subst
    (λ (o : Option Definition). Tells (given o End (λ (m : Definition). m.body))
    (given o (λ i. nothing) (λ (m : Definition). scene_uses p (body_scene p m)))) (sym (method_is p b))
    (lines_tell reads changes p b.method b.method.body (start p b.method) (body_judged p a b))

-- ---- its statements

-- There are as many statements as the list has.
pub count_lines : (xs : List Stmt) → statement_count (lines_from xs) ≡ length xs
count_lines [] = refl
count_lines (x ∷ xs) = add-one (statement_count (lines_from xs)) ∙ ap suc (count_lines xs)

first_method : (ms : List Method) (m : Definition) (d : Method) → map definition ms ≡ m ∷ []
    → definition (get_or ms 0 d) ≡ m
first_method [] m d e = absurd (cc)
first_method (y ∷ ys) m d e = let f : definition y ≡ m = cc in f

-- The statements of the first method are those of the one method.
pub stmts_are : (p : Program) (b : Built (code p)) (ms : List Method) → ms ≡ p.methods
    → (d : Method) (stmts : List Stmt)
    → stmts ≡ (out-Block (get_or ms 0 d).body).stmts → lines_from stmts ≡ main_lines (code p)
stmts_are p b ms h d stmts e = sym (body_is (code p) b
    ∙ ap (λ (x : Definition). x.body) (sym (first_method ms b.method d (ap (map definition) h ∙ b.methods)))
    ∙ lines-out (get_or ms 0 d).body ∙ ap lines_from (sym e))

-- ---- its graph

-- the body is the block with number 0
scene_is : (p : Code) (m : Definition) → m.no ≡ 0 → scene_numbered 0 (scenes p m) ≡ Some (body_scene p m)
scene_is p m e = ap (λ n. if nat_eq n 0 then Some (body_scene p m) else
    scene_numbered 0 (scenes_among p m false m.body (start p m))) e

graph_is : (p : Code) (b : Built p) → graph_of p 0 0 ≡ Some (scene_graph p (body_scene p b.method))
graph_is p b =
    graph_in_method p 0 0 b.method (method_is p b)
    ∙ ap (option_map (scene_graph p)) (scene_is p b.method b.is_main.no)

-- The body of the one method has a graph.
pub graph_there : (p : Code) → Built p → IsSome (graph_of p 0 0)
graph_there p b = ap is_some (graph_is p b)

-- the lists of the rules are the graph
rows_are : (names : ℕ) (uses : BlockUses) (n : ℕ) → ((j : ℕ) → Preds uses j (preds names uses j))
    → IsGraphOf uses n (graph names uses n)
rows_are names uses n exact =
    let size : length (graph names uses n) ≡ n = length-map (all_below n) (preds names uses) ∙ length_below n in (
      size,
      λ j l. subst (Preds uses j)
          (sym (get_or-map (preds names uses) (all_below n) j 0 [] (omega (arith, l, size, length_below n))
          ∙ ap (preds names uses) (number_below n j (omega (arith, l, size))))) (exact j),
    )

-- The graph of the body of the one method has exactly the edges of what its statements use.
pub graph_right : NamesAreBelow → (p : Code) → WellShaped p → Accepts p → Built p
    → (g : Graph) → graph_of p 0 0 ≡ Some g → IsMainGraph p g
graph_right below p w a b g e =
    let m : Definition = b.method in
    let body : IsBelow p (m.no, body_scene p m) = All-head (IsBelow p) (m.no, body_scene p m)
    (scenes_among p m false m.body (start p m)) (below p w a 0 m (method_is p b)).1 in
    let uses : BlockUses = scene_uses p (body_scene p m) in
    let rows : IsGraphOf uses (statement_count m.body) (scene_graph p (body_scene p m)) = rows_are (length p.names) uses
    (statement_count m.body) body.graph in
    let same : scene_graph p (body_scene p m) ≡ g = option_holds_one (graph_of p 0 0) _ g (graph_is p b) e in
    subst (IsMainGraph p) same
    (subst
    (λ (o : Option Definition). IsGraphOf (given o (λ i. nothing) (λ (m : Definition). scene_uses p (body_scene p m)))
    (statement_count (given o End (λ (m : Definition). m.body))) (scene_graph p (body_scene p m))) (sym (method_is p b))
    rows)
