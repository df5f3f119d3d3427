-- The object of a node, from its opening and its members.
use Rattle.std.proofs.Common.{◌≡◌, ◌∙◌, ap, subst, ℕ, List, [], ◌∷◌, ◌++◌, append_assoc}
use Rattle.json.specs.Token.{Token, begin_object}
use Rattle.oxt_grammar.specs.Rows.{row_of}
use Rattle.oxt_grammar.specs.declared.kind.Kind.{Kind}
use Rattle.oxt_json.proofs.Laid.{members_laid}
use Rattle.oxt_json.specs.Numbers.{MembersFit}
use Rattle.oxt_json.specs.Order.{order_of}
use Rattle.oxt_json.specs.Slots.{laid_node}
use Rattle.oxt_json.specs.Spelled.{each_data, put_fields, heading}
use Rattle.oxt_json.specs.Tokens.{tokens_of, member_tokens}
use Rattle.oxt_tree.specs.View.{docs_in}
use Rattle.oxt_tree.specs.declared.tree.Part.{Part}
use Rattle.serde_json.specs.Data as json
use Rattle.serde_json.specs.Data.{Members}

-- the members of a node with these parts
abbrev members_of : Kind → ℕ → ℕ → List Part → Members
members_of k start end ps = put_fields (row_of k) (docs_in ps) (each_data (docs_in ps)) (heading k start end)

same_members : (k : Kind) (start end : ℕ) (ps qs : List Part) → qs ≡ ps → laid_node k start end (docs_in qs) (order_of k) ≡ members_of k start end ps
same_members k start end ps qs same = ap (λ rs. laid_node k start end (docs_in rs) (order_of k)) same ∙ members_laid k start end (docs_in ps)

pub node_written : (k : Kind) (start end : ℕ) (ps qs : List Part) (old opened new : List Token) → qs ≡ ps → opened ≡ old ++ begin_object ∷ [] → new ≡ opened ++ member_tokens (laid_node k start end (docs_in qs) (order_of k))
    → new ≡ old ++ tokens_of (json.object (members_of k start end ps))
node_written k start end ps qs old opened new same began is =
    let members = same_members k start end ps qs same in
    is ∙ (ap (λ ts. ts ++ member_tokens (laid_node k start end (docs_in qs) (order_of k))) began ∙ (append_assoc old (begin_object ∷ []) _ ∙ ap (λ ms. old ++ tokens_of (json.object ms)) members))

pub node_fits : (k : Kind) (start end : ℕ) (ps qs : List Part) → qs ≡ ps → MembersFit (laid_node k start end (docs_in qs) (order_of k)) → MembersFit (members_of k start end ps)
node_fits k start end ps qs same fit = subst MembersFit (same_members k start end ps qs same) fit
