use Rattle.call_list.proofs.finder.CallFinder.find.Goals as goal

pub find_next-requires-clause-plan : goal.find_next-requires-clause-plan
find_next-requires-clause-plan c = c.requires.plan

pub find_next-requires-clause-roll : goal.find_next-requires-clause-roll
find_next-requires-clause-roll c = c.requires.roll

pub find_next-requires-clause-reaches : goal.find_next-requires-clause-reaches
find_next-requires-clause-reaches c = c.requires.reaches

pub find_next-requires-clause-room : goal.find_next-requires-clause-room
find_next-requires-clause-room c = c.requires.room

pub find_helped-requires-clause-plan : goal.find_helped-requires-clause-plan
find_helped-requires-clause-plan c = c.requires.plan

pub find_helped-requires-clause-roll : goal.find_helped-requires-clause-roll
find_helped-requires-clause-roll c = c.requires.roll

pub find_helped-requires-clause-reaches : goal.find_helped-requires-clause-reaches
find_helped-requires-clause-reaches c = c.requires.reaches

pub find_helped-requires-clause-room : goal.find_helped-requires-clause-room
find_helped-requires-clause-room c = c.requires.room
