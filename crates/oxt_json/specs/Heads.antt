-- The head of a node, as the specifications have it.
use Rattle.oxt_json.specs.Reading as reading
use Rattle.oxt_json.specs.declared.head.Head.{Head}

abbrev pub head_view : Head → reading.Head
head_view h = record { kind = h.kind; start = h.span.start; end = h.span.end }
