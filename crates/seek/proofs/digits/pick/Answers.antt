use Rattle.seek.proofs.Tries.{tried_stopped, picked_one, picked_two, picked_three, picked_four}
use Rattle.seek.proofs.digits.pick.Goals as goal

pub returns-in-One : goal.returns-in-One
returns-in-One g c = picked_one c.in-One.is c.new-only.ensures c.attempt.ensures

pub returns-in_err-x-in-Two : goal.returns-in_err-x-in-Two
returns-in_err-x-in-Two g c = picked_two c.in-Two.is c.new-first.ensures c.new-second.ensures c.in_err-x-in-Two.ensures tried_stopped

pub returns-in_ok-x-in-Two : goal.returns-in_ok-x-in-Two
returns-in_ok-x-in-Two g c = picked_two c.in-Two.is c.new-first.ensures c.new-second.ensures c.in_ok-x-in-Two.ensures c.attempt-in-Two-2.ensures

pub returns-in_err-x-in-Three : goal.returns-in_err-x-in-Three
returns-in_err-x-in-Three g c = picked_three c.in-Three.is c.new-first-in-Three.ensures c.new-second-in-Three.ensures c.new-third.ensures c.in_err-x-in-Three.ensures (tried_stopped {p' = c.args.place.now}) tried_stopped

pub returns-in_err-y-in-Three : goal.returns-in_err-y-in-Three
returns-in_err-y-in-Three g c = picked_three c.in-Three.is c.new-first-in-Three.ensures c.new-second-in-Three.ensures c.new-third.ensures c.in_ok-x-in-Three.ensures c.in_err-y-in-Three.ensures tried_stopped

pub returns-in_ok-y-in-Three : goal.returns-in_ok-y-in-Three
returns-in_ok-y-in-Three g c = picked_three c.in-Three.is c.new-first-in-Three.ensures c.new-second-in-Three.ensures c.new-third.ensures c.in_ok-x-in-Three.ensures c.in_ok-y-in-Three.ensures c.attempt-in-Three-3.ensures

pub returns-in_err-x-in-Four : goal.returns-in_err-x-in-Four
returns-in_err-x-in-Four g c = picked_four c.in-Four.is c.new-first-in-Four.ensures c.new-second-in-Four.ensures c.new-third-in-Four.ensures c.new-fourth.ensures c.in_err-x-in-Four.ensures (tried_stopped {p' = c.args.place.now}) (tried_stopped {p' = c.args.place.now}) tried_stopped

pub returns-in_err-y-in-Four : goal.returns-in_err-y-in-Four
returns-in_err-y-in-Four g c = picked_four c.in-Four.is c.new-first-in-Four.ensures c.new-second-in-Four.ensures c.new-third-in-Four.ensures c.new-fourth.ensures c.in_ok-x-in-Four.ensures c.in_err-y-in-Four.ensures (tried_stopped {p' = c.args.place.now}) tried_stopped

pub returns-in_err-z-in-Four : goal.returns-in_err-z-in-Four
returns-in_err-z-in-Four g c = picked_four c.in-Four.is c.new-first-in-Four.ensures c.new-second-in-Four.ensures c.new-third-in-Four.ensures c.new-fourth.ensures c.in_ok-x-in-Four.ensures c.in_ok-y-in-Four.ensures c.in_err-z-in-Four.ensures tried_stopped

pub returns-in_ok-z-in-Four : goal.returns-in_ok-z-in-Four
returns-in_ok-z-in-Four g c = picked_four c.in-Four.is c.new-first-in-Four.ensures c.new-second-in-Four.ensures c.new-third-in-Four.ensures c.new-fourth.ensures c.in_ok-x-in-Four.ensures c.in_ok-y-in-Four.ensures c.in_ok-z-in-Four.ensures c.attempt-in-Four-4.ensures
