-- The tokens of a text can be spelled, and so the layout of a program with these tokens is cut into them again.
use Rattle.std.proofs.Common.{◌≡◌, List, [], ◌∷◌, ◌++◌, map, refl, sym, ap, ◌∙◌, subst, ◌&&◌, Bool, true, false}
use Rattle.std.specs.Str.{encode_utf8_all, all_scalars, IsUtf8}
use Rattle.std.proofs.lemmas.Str.{encodes_same}
use Rattle.std.proofs.lemmas.List.{map-append}
use Rattle.ae_text.specs.declared.token.TokenKind.{TokenKind}
use Rattle.ae_text.specs.declared.token.TokenKind.TheVariants as t
use Rattle.ae_text.specs.Tokens.{Text, TextPiece, White, Comment, Tok, text_of, ArePieces, tokens_from, end_token}
use Rattle.ae_tree.specs.Plain.{Code}
use Rattle.ae_layout.specs.Layout.{program_rows, layout}
use Rattle.ae_layout.specs.Rows.{Every, CanSpell, kinds_of, Spellable, LexesAs}
use Rattle.ae_layout.proofs.Cut.{kinds_in, tokens_kinds, rows_lex}
use Rattle.ae_layout.proofs.Forms.{program_spelled}
use Rattle.std.proofs.lemmas.Bool.{and_parts}

-- characters end to end: those of each part
scalars_parts : (s r : Text) → all_scalars (s ++ r) ≡ true → (all_scalars s ≡ true) × (all_scalars r ≡ true)
scalars_parts [] r h = (refl, h)
scalars_parts (c ∷ s) r h =
    let p = and_parts _ (all_scalars (s ++ r)) h in
    let q = scalars_parts s r p.1 in
    (rw p.0 q.0, q.1)

pieces_can : (ps : List TextPiece) (rest : Text) → ArePieces ps rest → all_scalars (text_of ps) ≡ true
    → Every CanSpell (kinds_in ps)
pieces_can [] rest e h = tt
pieces_can (White c ∷ ps) rest e h = pieces_can ps rest e.1 (scalars_parts (c ∷ []) (text_of ps) h).1
pieces_can (Comment s ∷ ps) rest e h = pieces_can ps rest e.1 (scalars_parts (47 ∷ 47 ∷ s) (text_of ps) h).1
pieces_can (Tok k s ∷ ps) rest e h =
    let p = scalars_parts s (text_of ps) h in
    (record { characters = s; scalars = p.0; spells = e.0.spells; in_range = e.0.in_range }, pieces_can ps rest e.1 p.1)

utf8_scalars : (bytes cs : Text) → IsUtf8 bytes → bytes ≡ encode_utf8_all cs → all_scalars cs ≡ true
utf8_scalars bytes cs u e = let P : Text → Type 0 = λ x. all_scalars x
    ≡ true in subst P (encodes_same u.0 cs (u.1.1 ∙ e)) u.1.0

-- lists with one more element at the end
fronts_same : {A : Type 0} (xs ys : List A) (z : A) → xs ++ z ∷ [] ≡ ys ++ z ∷ [] → xs ≡ ys
fronts_same [] [] z e = refl
fronts_same [] (y ∷ []) z e = absurd (cc)
fronts_same [] (y ∷ w ∷ ys) z e = absurd (cc)
fronts_same (x ∷ []) [] z e = absurd (cc)
fronts_same (x ∷ w ∷ xs) [] z e = absurd (cc)
fronts_same (x ∷ xs) (y ∷ ys) z e =
    let heads : x ≡ y = cc in
    let tails : xs ++ z ∷ [] ≡ ys ++ z ∷ [] = cc in
    ap (λ w. w ∷ xs) heads ∙ ap (λ l. y ∷ l) (fronts_same xs ys z tails)

-- each token of a text can be spelled
pub source_can : (bytes : Text) (ks : List TokenKind) → LexesAs bytes ks → Every CanSpell ks
source_can bytes ks (tokens, l, e) =
    let same : kinds_in l.pieces ≡ ks =
    fronts_same (kinds_in l.pieces) ks t.End
    (ap (λ x. x ++ t.End ∷ []) (sym (tokens_kinds bytes 0 l.pieces))
    ∙ sym (map-append (λ x. x.kind) (tokens_from bytes 0 l.pieces) (end_token bytes ∷ []))
    ∙ ap (map (λ x. x.kind)) (sym l.are) ∙ e) in
    let P : List TokenKind → Type 0 = Every CanSpell in
    subst P same (pieces_can l.pieces [] l.each (utf8_scalars bytes (text_of l.pieces) l.utf8 l.whole))

-- the layout of a program that can be written is cut into its tokens
pub layout_lexes : (p : Code) → Spellable p → LexesAs (layout p) (kinds_of (program_rows p))
unfolding layout
layout_lexes p s = rows_lex (program_rows p) (program_spelled p s)

-- and so is that of a program whose tokens some text has
pub layout_again : (bytes : Text) (p : Code) → LexesAs bytes (kinds_of (program_rows p))
    → LexesAs (layout p) (kinds_of (program_rows p))
layout_again bytes p l = layout_lexes p (source_can bytes (kinds_of (program_rows p)) l)
