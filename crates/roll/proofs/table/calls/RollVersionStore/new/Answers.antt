use Rattle.std.proofs.Common.{refl, subst, sym, arith}
use Rattle.store.specs.Model.{stored, set_aside}
use Rattle.roll.specs.Links.{HeadsNameNewest, LinksNameOlder}
use Rattle.roll.specs.Moves.{made_fresh, made_total, room_of}
use Rattle.roll.proofs.Links.{heads_fresh, linked_fresh}
use Rattle.roll.proofs.table.calls.RollVersionStore.new.Goals as goal

pub invariant_of-result : goal.invariant_of-result
invariant_of-result c =
    let begun = c.in_ok-with_capacity.ensures in
    let none = begun.len in
    let all = c.in_ok-vec.ensures.items_if_clones_equal (λ y e. e) in
    let is = made_fresh c.in_ok-with_capacity.field-0.items c.in_ok-vec.field-0.items begun.items _ all refl in
    record {
      roomy = begun.capacity;
      whole = c.in_ok-vec.ensures.len;
      fits = omega (arith, none);
      counted = omega (arith, none, made_total stored refl _ is);
      summed = made_total set_aside refl _ is;
      headed = subst (HeadsNameNewest c.in_ok-vec.field-0.items) (sym begun.items) (heads_fresh c.in_ok-vec.field-0.items _ all refl);
      linked = subst LinksNameOlder (sym begun.items) linked_fresh;
    }

pub returns : goal.returns
returns c =
    let all = c.in_ok-vec.ensures.items_if_clones_equal (λ y e. e) in
    let is = made_fresh c.in_ok-with_capacity.field-0.items c.in_ok-vec.field-0.items c.in_ok-with_capacity.ensures.items _ all refl in
    record { value = is; room = room_of _ 0 0 (made_total stored refl _ is) (made_total set_aside refl _ is) }
