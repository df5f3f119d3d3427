use Rattle.std.proofs.Common.{◌≡◌, ◌∙◌, IsSome, length, refl, subst, sym, rules}
use Rattle.oxt_stores.proofs.Stacks.{top_is}
use Rattle.oxt_stores.proofs.sparse.SparseStack.top_mut.Goals as goal

pub value_mut-requires : goal.value_mut-requires
value_mut-requires g c =
    let len : c.len-last.result ≡ length c.self.inside.entries.items = search rules in
    subst IsSome (top_is c.args.self.now c.self.inside.entries.items c.len-last.result c.index_mut.result.now (sym c.self.view_is) len c.requires c.index_mut.ensures.value) c.requires

pub returns : goal.returns
returns g c =
    let len : c.len-last.result ≡ length c.self.inside.entries.items = search rules in
    let on_top = top_is c.args.self.now c.self.inside.entries.items c.len-last.result c.index_mut.result.now (sym c.self.view_is) len c.requires c.index_mut.ensures.value in
    ((refl, λ w. search rules), record { writes_back = tt; value = on_top ∙ c.value_mut.ensures.value })
