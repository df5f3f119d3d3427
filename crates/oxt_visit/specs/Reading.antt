-- Readings of several documents.
use Rattle.std.specs.Prelude.{◌≡◌, ℕ, refl, List, [], ◌∷◌}
use Rattle.std.proofs.Common.{sym, ◌∙◌, ap}
use Rattle.oxt_grammar.specs.declared.kind.Kind.{Kind}
use Rattle.oxt_tree.specs.Doc.{Doc, list, node, Docs, no_docs, doc, docs_of}

-- what is read of each of them
abbrev pub readings : {A : Type 0} → (Doc → A) → Docs → List A
readings read no_docs = []
readings read (doc d ds) = read d ∷ readings read ds

-- ---- a visitor that reads all changes nothing

-- the whole document
abbrev pub whole : Doc → Doc
whole d = d

read_back : (ds : Docs) → docs_of (readings whole ds) ≡ ds
read_back no_docs = refl
read_back (doc d ds) = ap (doc d) (read_back ds)

-- documents that are the same one by one
pub same_docs : (ds es : Docs) → readings whole ds ≡ readings whole es → ds ≡ es
same_docs ds es same = sym (read_back ds) ∙ ap docs_of same ∙ read_back es

-- the same of the fields of a node
pub same_node : (k : Kind) (n b e : ℕ) (ds es : Docs) → readings whole ds ≡ readings whole es → node k n b e ds ≡ node k n b e es
same_node k n b e ds es same = ap (node k n b e) (same_docs ds es same)

-- and of the elements of a list
pub same_list : (ds es : Docs) → readings whole ds ≡ readings whole es → list ds ≡ list es
same_list ds es same = ap list (same_docs ds es same)
