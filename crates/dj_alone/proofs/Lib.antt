mod Apart
mod Walking
mod Having
mod Above
