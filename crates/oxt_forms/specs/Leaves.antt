-- What nodes without further parts do, and what becomes of a value that is dropped.
use Rattle.std.specs.Prelude.{ℕ, List, [], ◌∷◌, ◌++◌, Bool, true, false, if◌then◌else◌, Option, None, Some, codes}
use Rattle.oxt_facts.specs.Facts.{Known, group_at, is_made}
use Rattle.oxt_facts.specs.Inside.{stored_at}
use Rattle.oxt_forms.specs.Made.{base_key, base_object, made_tag}
use Rattle.oxt_facts.specs.Entry.{Entry, binding_text, detail, lone, owned, spelled}
use Rattle.oxt_facts.specs.Owners.{owner_in}
use Rattle.oxt_facts.specs.declared.item.Binding.{Binding}
use Rattle.oxt_facts.specs.declared.item.ItemKind.{ItemKind}
use Rattle.oxt_facts.specs.declared.item.ItemKind.TheVariants as item
use Rattle.oxt_grammar.specs.declared.kind.Kind.{Kind}
use Rattle.oxt_tree.specs.Doc.{Doc, Docs, flag, text}
use Rattle.oxt_tree.specs.Fields.{first, is_nil, named}

-- the use of the name of that number, which may be made
abbrev pub name_word : Known → ℕ → Docs → List Entry
name_word f i ds =
    if is_made f (first ds) then spelled item.Made (detail (first ds))
    else owned (group_at f i) item.Name (detail (first ds)) []

-- the made name, or else the private name
abbrev pub private_or : Docs → Option (List ℕ) → List Entry
private_or ds None = spelled item.Private (detail (first ds))
private_or ds (Some m) = spelled item.PrivateMade (text m)

-- a private name, which may stand for a made name
abbrev pub private_word : Known → Docs → List Entry
private_word f ds = private_or ds (stored_at f (first ds))

-- the declared name of that number, which may be made
abbrev pub bind_word : Known → Binding → Bool → ℕ → Docs → List Entry
bind_word f b x i ds =
    owned (owner_in f.owners i) (if is_made f (first ds) then item.BindMade else item.Bind) (detail (first ds))
    (text (binding_text b) ∷ flag x ∷ [])

-- The kind of a value that a made name holds.
abbrev pub is_kept_kind : ItemKind → Bool
is_kept_kind item.Keep = true
is_kept_kind m = false

-- A value that a made name holds comes last.
abbrev pub ends_kept : List Entry → Bool
ends_kept [] = false
ends_kept (e ∷ []) = is_kept_kind e.kind
ends_kept (e ∷ es) = ends_kept es

-- What computes a value that is dropped. One that a made name holds is not.
abbrev pub dropped : List Entry → List Entry
dropped w = if ends_kept w then w else w ++ lone item.Eval

-- a number, or its raw text where it has no value
abbrev pub number_word : Kind → Docs → List Entry
number_word k ds =
    spelled item.Num (detail (if is_nil (named (codes "value") k ds)
    then named (codes "raw") k ds
    else named (codes "value") k ds))

-- the first line for the system, where there is one
abbrev pub hash_word : Doc → List Entry
hash_word d = if is_nil d then [] else spelled item.Hash (detail d)

-- the made name and the key of the member `m` in `x || (x = m || (m = {}))`
abbrev pub base_word : Known → Doc → List Entry
base_word f m =
    spelled item.Made (detail (made_tag f (base_object m))) ++ spelled item.Str (detail (base_key m))

-- the entry into a called function, whose parameter is the name of that number and may be made
abbrev pub in_word : Known → Bool → ℕ → Docs → List Entry
in_word f p i ds =
    owned (owner_in f.owners i) (if is_made f (first ds) then item.InMade else item.In) (detail (first ds)) (flag p ∷ [])
