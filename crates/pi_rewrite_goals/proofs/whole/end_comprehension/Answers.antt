-- An item is gathered, and the loop ends.
use Rattle.pi_rewrite_goals.proofs.whole.end_comprehension.Goals as goal

pub returns : goal.returns
returns c = record {
  turn = c.push_adding.new.goals.items;
  slots = c.push_adding.new.slots;
  behind = c.end_foreach.new.slots;
  adds = c.in_ok-push_adding.ensures;
  ends = c.in_ok-end_foreach.ensures;
  is = c.in_ok-list.ensures.is;
  left = c.in_ok-list.ensures.slots;
}
