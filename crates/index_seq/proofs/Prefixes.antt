-- How many first elements pass a test, counted from one to the next.
use Rattle.std.proofs.lemmas.List.Sums.{prefix_len-drop_yes, prefix_len-drop_no, prefix_len-drop_all}

pub ruleset prefixes = (prefix_len-drop_yes, prefix_len-drop_no, prefix_len-drop_all)
