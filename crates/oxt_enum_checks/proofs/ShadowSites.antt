-- Shadowed names stand in the outermost enums, one after another.
use denote.Ref.{Bor}
use Rattle.std.proofs.Common.{◌≡◌, ◌∙◌, refl, sym, ap, ℕ, ◌+◌, ◌<◌, ◌≤◌, List, [], ◌∷◌, ◌++◌, map, length, drop, get_or, append_assoc, append-nil, Bool, false, ◌&&◌, None, cond}
use Rattle.std.specs.Prelude.{codes}
use Rattle.oxt_enum_checks.specs.Around.{enum_in, symbol_of_name, within}
use Rattle.oxt_enum_checks.specs.Shadows.{Shadow, all_among, all_at, all_shadows, initializer_shadows, left_all, member_shadows}
use Rattle.oxt_grammar.specs.Rows.{row_of}
use Rattle.oxt_grammar.specs.declared.kind.Kind.{Kind}
use Rattle.oxt_names.proofs.Lists.{drop_at, drop_end}
use Rattle.oxt_scoping.specs.Scoped.{Scoped}
use Rattle.oxt_declares.proofs.Outside.{no_enum, no_member, said_outside}
use Rattle.oxt_declares.specs.Quiet.{SaysNothingOutside}
use Rattle.oxt_declares.specs.Sites.{enum_sites, is_site, said_of_each}
use Rattle.oxt_tree.specs.Doc.{Doc, Docs}
use Rattle.oxt_tree.specs.Fields.{named}
use Rattle.oxt_tree.specs.View.{node_doc}
use Rattle.oxt_tree.specs.declared.tree.Node.{Node}

abbrev pub site_docs : List (Bor Node) → List Doc
site_docs ns = map (λ (n : Bor Node). node_doc n.now) ns

-- those in a document that stands in no enum
abbrev pub said : Bool → Scoped → Doc → List Shadow
said l s d = all_shadows l s d None

no_own : (l : Bool) (s : Scoped) (k : Kind) (ds : Docs) → is_site k ≡ false → member_shadows l s k ds None ≡ []
no_own l s k ds other = ap (λ b. cond b (initializer_shadows l s (named (codes "initializer") k ds) (enum_in s.symbols None)) []) (no_member k other)

stays : (s : Scoped) (k : Kind) (ds : Docs) → is_site k ≡ false → within s k ds None ≡ None
stays s k ds other = ap (λ b. cond b (symbol_of_name s (named (codes "id") k ds)) None) (no_enum k other)

outside : (l : Bool) (s : Scoped) → SaysNothingOutside l (said l s) (λ ds. all_among l s ds None) (λ ds rs name. all_at l s ds rs name None)
outside l s =
    record {
      of_nil = refl;
      of_flag = λ b. refl;
      of_number = λ n. refl;
      of_text = λ t. refl;
      of_list = λ ds. refl;
      of_erased = λ k i b e ds erased.
          ap (λ c. cond c (left_all l k ds (all_at l s ds (row_of k) (codes "decorators") None)) (member_shadows l s k ds None ++ all_among l s ds (within s k ds None))) erased;
      of_other = λ k i b e ds kept other.
          ap (λ c. cond c (left_all l k ds (all_at l s ds (row_of k) (codes "decorators") None)) (member_shadows l s k ds None ++ all_among l s ds (within s k ds None))) kept
          ∙ ap (λ xs. xs ++ all_among l s ds (within s k ds None)) (no_own l s k ds other) ∙ ap (all_among l s ds) (stays s k ds other);
      of_none = refl;
      of_more = λ d ds. refl;
      at_none = λ rs name. refl;
      at_end = λ d ds name. refl;
      at_more = λ d ds r rs name. refl;
    }

-- all of a document stand in the outermost enums
pub all_at_enums : (l : Bool) (s : Scoped) (d : Doc) → all_shadows l s d None ≡ said_of_each (said l s) (enum_sites l d)
all_at_enums l s d = said_outside l (said l s) (λ ds. all_among l s ds None) (λ ds rs name. all_at l s ds rs name None) (outside l s) d

-- ---- one enum after another

pub site_next : (before after : List Shadow) (l : Bool) (s : Scoped) (ns : List (Bor Node)) (i : ℕ) (n : Bor Node) → i < length ns → n ≡ get_or ns i n → after ≡ before ++ all_shadows l s (node_doc n.now) None
    → before ++ said_of_each (said l s) (site_docs (drop i ns)) ≡ after ++ said_of_each (said l s) (site_docs (drop (i + 1) ns))
site_next before after l s ns i n within here pushed =
    ap (λ ms. before ++ said_of_each (said l s) (site_docs ms)) (drop_at ns i n within here)
    ∙ sym (append_assoc before (said l s (node_doc n.now)) (said_of_each (said l s) (site_docs (drop (i + 1) ns))))
    ∙ ap (λ xs. xs ++ said_of_each (said l s) (site_docs (drop (i + 1) ns))) (sym pushed)

pub site_last : (before : List Shadow) (l : Bool) (s : Scoped) (ns : List (Bor Node)) (i : ℕ) → length ns ≤ i → before ++ said_of_each (said l s) (site_docs (drop i ns)) ≡ before
site_last before l s ns i past = ap (λ ms. before ++ said_of_each (said l s) (site_docs ms)) (drop_end ns i past) ∙ append-nil before

pub ruleset site_steps = (site_next, site_last)
