-- `nodes::lay` meets its contract, which speaks of every tree that stands at the node: a leaf is written, a fork lays out its left side from the next
-- node on and its right side behind that. The levels fall.
use Rattle.std.proofs.Common.{◌+◌, max, ℕ, ◌∙◌, ap, arith}
use Rattle.selector.proofs.RecordLaws.{constants-small}
use Rattle.tree.proofs.NodesLaws.{done_fork, done_leaf, room_gate, room_here, room_left, room_level, room_next, room_right, sides}
use Rattle.tree.specs.declared.nodes.Stats.{Stats}
use Rattle.tree.proofs.nodes.+lay.Goals as goal

pub returns-then-levels-eq0 : goal.returns-then-levels-eq0
returns-then-levels-eq0 t c =
    let a = c.args in
    λ u h d. absurd (omega (arith, room_level a.many a.old.now a.at a.levels a.stats.next c.requires.room))

pub overflow_mul-left : goal.overflow_mul-left
overflow_mul-left t c =
    let a = c.args in
    omega (arith, room_here a.many a.old.now a.at a.levels a.stats.next c.requires.room)

pub offset_bounds-old-at : goal.offset_bounds-old-at
offset_bounds-old-at t c =
    let a = c.args in
    omega (arith, room_here a.many a.old.now a.at a.levels a.stats.next c.requires.room)

pub bounds-old-at : goal.bounds-old-at
bounds-old-at t c =
    let a = c.args in
    omega (arith, room_here a.many a.old.now a.at a.levels a.stats.next c.requires.room)

pub overflow_mul-gate : goal.overflow_mul-gate
overflow_mul-gate t c =
    let a = c.args in
    omega (arith, room_here a.many a.old.now a.at a.levels a.stats.next c.requires.room)

pub overflow_add-gate : goal.overflow_add-gate
overflow_add-gate t c =
    let a = c.args in
    omega (arith, room_here a.many a.old.now a.at a.levels a.stats.next c.requires.room)

pub offset_bounds-old-at-then-left-eq0 : goal.offset_bounds-old-at-then-left-eq0
offset_bounds-old-at-then-left-eq0 t c =
    let a = c.args in
    omega (arith, room_here a.many a.old.now a.at a.levels a.stats.next c.requires.room)

pub bounds-old-at-then-left-eq0 : goal.bounds-old-at-then-left-eq0
bounds-old-at-then-left-eq0 t c =
    let a = c.args in
    omega (arith, room_here a.many a.old.now a.at a.levels a.stats.next c.requires.room)

pub put_node-requires : goal.put_node-requires
put_node-requires t c =
    let a = c.args in
    omega (arith, room_next a.many a.old.now a.at a.levels a.stats.next c.requires.room)

pub degree_at_depth-requires : goal.degree_at_depth-requires
degree_at_depth-requires t c =
    let a = c.args in
    let g = room_gate a.many a.old.now a.at a.levels a.stats.next c.requires.room c.if-left-eq0.true in
    (omega (arith, g, c.requires.sound.all), omega arith, c.requires.sound.degrees _ g)

pub constants_of-requires : goal.constants_of-requires
constants_of-requires t c =
    let a = c.args in
    omega (arith, room_gate a.many a.old.now a.at a.levels a.stats.next c.requires.room c.if-left-eq0.true, c.requires.sound.all)

pub overflow_add-constants_of : goal.overflow_add-constants_of
overflow_add-constants_of t c =
    let a = c.args in
    omega (arith, constants-small a.gates.now a.many a.extra c.requires.sound _ (room_gate a.many a.old.now a.at a.levels a.stats.next c.requires.room c.if-left-eq0.true), c.constants_of.ensures)

pub returns-then-left-eq0 : goal.returns-then-left-eq0
returns-then-left-eq0 t c =
    let a = c.args in
    let d = c.max-degree.ensures ∙ ap (max a.stats.degree) c.degree_at_depth.ensures in
    let k = c.max-constants.ensures ∙ ap (λ (z : ℕ). max a.stats.constants (z + a.level)) c.constants_of.ensures in
    λ u h q. rw (c.put_node.ensures, d, k) (done_leaf a.extra a.gates.now a.old.now a.at a.level a.stats a.new.now u h c.if-left-eq0.true)

pub lay-done-requires : goal.lay-done-requires
lay-done-requires t c =
    let a = c.args in
    let l = room_level a.many a.old.now a.at a.levels a.stats.next c.requires.room in
    (omega arith, (c.requires.sound, (room_left a.many a.old.now a.at a.levels a.stats.next (sides a.many a.old.now a.at a.levels a.stats.next c.requires.room c.if-left-eq0.false), omega arith)))

pub put_node-requires-2 : goal.put_node-requires-2
put_node-requires-2 t c =
    let a = c.args in
    omega (arith, room_next a.many a.old.now a.at a.levels a.stats.next c.requires.room)

pub lay-requires : goal.lay-requires
lay-requires t c =
    let a = c.args in
    let l = room_level a.many a.old.now a.at a.levels a.stats.next c.requires.room in
    let d = sides a.many a.old.now a.at a.levels a.stats.next c.requires.room c.if-left-eq0.false in
    let e = c.lay-done.ensures d.l d.holds_l (omega (arith, d.deep_l)) in
    (omega arith, (c.requires.sound, (room_right a.many a.old.now a.at a.levels a.stats.next d _ (ap (λ (z : Stats). z.next) e.sums), omega arith)))

pub returns : goal.returns
returns t c =
    let a = c.args in
    let o = c.put_node-2.ensures in
    λ u h q. done_fork a.extra a.gates.now a.old.now a.at a.level a.stats a.new.now a.levels u h q c.if-left-eq0.false _ _ _ _ c.lay-done.ensures (λ r y z. rw o at (c.lay.ensures r y z))
