use Rattle.std.proofs.Common.{arith}
use Rattle.dj_names.proofs.IdentifiersLemmas.{begins_same, none_begins}
use Rattle.dj_names.proofs.identifiers.reserved_by_first.Goals as goal

pub returns-in-97 : goal.returns-in-97
returns-in-97 c = record { words = begins_same 97 c.args.letter c.in-97.is }

pub returns-in-98 : goal.returns-in-98
returns-in-98 c = record { words = begins_same 98 c.args.letter c.in-98.is }

pub returns-in-99 : goal.returns-in-99
returns-in-99 c = record { words = begins_same 99 c.args.letter c.in-99.is }

pub returns-in-100 : goal.returns-in-100
returns-in-100 c = record { words = begins_same 100 c.args.letter c.in-100.is }

pub returns-in-101 : goal.returns-in-101
returns-in-101 c = record { words = begins_same 101 c.args.letter c.in-101.is }

pub returns-in-102 : goal.returns-in-102
returns-in-102 c = record { words = begins_same 102 c.args.letter c.in-102.is }

pub returns-in-103 : goal.returns-in-103
returns-in-103 c = record { words = begins_same 103 c.args.letter c.in-103.is }

pub returns-in-105 : goal.returns-in-105
returns-in-105 c = record { words = begins_same 105 c.args.letter c.in-105.is }

pub returns-in-108 : goal.returns-in-108
returns-in-108 c = record { words = begins_same 108 c.args.letter c.in-108.is }

pub returns-in-110 : goal.returns-in-110
returns-in-110 c = record { words = begins_same 110 c.args.letter c.in-110.is }

pub returns-in-112 : goal.returns-in-112
returns-in-112 c = record { words = begins_same 112 c.args.letter c.in-112.is }

pub returns-in-114 : goal.returns-in-114
returns-in-114 c = record { words = begins_same 114 c.args.letter c.in-114.is }

pub returns-in-115 : goal.returns-in-115
returns-in-115 c = record { words = begins_same 115 c.args.letter c.in-115.is }

pub returns-in-116 : goal.returns-in-116
returns-in-116 c = record { words = begins_same 116 c.args.letter c.in-116.is }

pub returns-in-118 : goal.returns-in-118
returns-in-118 c = record { words = begins_same 118 c.args.letter c.in-118.is }

pub returns-in-119 : goal.returns-in-119
returns-in-119 c = record { words = begins_same 119 c.args.letter c.in-119.is }

pub returns-in_default : goal.returns-in_default
returns-in_default c = record { words = none_begins c.args.letter (omega arith) (omega arith) (omega arith) (omega arith) (omega arith) (omega arith) (omega arith) (omega arith) (omega arith) (omega arith) (omega arith) (omega arith) (omega arith) (omega arith) (omega arith) (omega arith) }
